pub mod CodesBack
pub mod CodedRecords
pub mod StartedBodies
