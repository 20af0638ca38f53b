use Rattle.bbm_rules.proofs.Common.{sym, IfOk-weaker}
use Rattle.bbm_oracle_trees.specs.Past.{notes}
use Rattle.bbm_judge.proofs.order.breaks.Goals as goal

pub returns-in-WrongWorld : goal.returns-in-WrongWorld
returns-in-WrongWorld g c =
    rw c.in-WrongWorld.is (rw c.header-header.ensures at (c.wrong_world.ensures c.args.history.now.trust (notes c.args.history.now)))

pub returns-in-BadOperand : goal.returns-in-BadOperand
returns-in-BadOperand g c =
    rw c.in-BadOperand.is (c.bad_operand.ensures c.args.history.now.trust (notes c.args.history.now) c.args.history.now.heading)

pub returns-in-NullWritten : goal.returns-in-NullWritten
returns-in-NullWritten g c =
    rw c.in-NullWritten.is (c.null_written.ensures c.args.history.now.trust (notes c.args.history.now) c.args.history.now.heading (sym c.events-events.ensures))

pub returns-in-NoRoot : goal.returns-in-NoRoot
returns-in-NoRoot g c =
    rw c.in-NoRoot.is (rw c.header-header.ensures at (c.no_root.ensures c.args.history.now.trust (notes c.args.history.now) (sym c.events-events.ensures)))

pub returns-in-LockBusy : goal.returns-in-LockBusy
returns-in-LockBusy g c =
    rw c.in-LockBusy.is (c.lock_busy.ensures c.args.history.now.trust (notes c.args.history.now) c.args.history.now.heading (sym c.events-events.ensures))

pub returns-in-LockNotMine : goal.returns-in-LockNotMine
returns-in-LockNotMine g c =
    rw c.in-LockNotMine.is (c.lock_not_mine.ensures c.args.history.now.trust (notes c.args.history.now) c.args.history.now.heading (sym c.events-events.ensures))

pub returns-in-UnsyncedVmid : goal.returns-in-UnsyncedVmid
returns-in-UnsyncedVmid g c =
    IfOk-weaker c.unsynced_vmid.result _ _
    (λ at e. rw c.in-UnsyncedVmid.is
    (rw c.header-header.ensures at (e c.args.history.now.trust (notes c.args.history.now) (sym c.events-events.ensures))))
    c.unsynced_vmid.ensures
