pub mod NoTargets
mod Held
mod Looking
mod Turned
