pub mod CertificateReading
