use Rattle.bbm_roots.proofs.Common.{◌<◌, ◌≤◌, ◌&&◌, arith, length, takes_whole_tag, unread_at}
use Rattle.bbm_roots.proofs.Places.{at-noted, at-unnoted}
use Rattle.bbm_roots.proofs.issue.note_place.Goals as goal

pub returns-then-place-len : goal.returns-then-place-len
returns-then-place-len c = λ n g h p kept.
    let ms = c.args.waits.now.items in
    let place = c.slot-place.result in
    let z = takes_whole_tag c.args.scope.now c.args.vmid g
    && unread_at c.args.registers.now c.args.issuer c.args.scope.now.broadcast g p in
    let below : place < length ms = omega (arith, c.if-place-len.true, c.len.ensures) in
    rw (← c.slot-place.ensures.slot)
    (at-noted ms place c.index_mut.result.now c.note_entries.new.waits below c.index_mut.ensures.value g p z
    (c.note_entries.ensures g h p kept) n)

pub returns-else-place-len : goal.returns-else-place-len
returns-else-place-len c = λ n g h p kept.
    let ms = c.args.waits.now.items in
    let place = c.slot-place.result in
    let z = takes_whole_tag c.args.scope.now c.args.vmid g
    && unread_at c.args.registers.now c.args.issuer c.args.scope.now.broadcast g p in
    let past : length ms ≤ place = omega (arith, c.if-place-len.false, c.len.ensures) in
    rw (← c.slot-place.ensures.slot) (at-unnoted ms place past g p z n)
