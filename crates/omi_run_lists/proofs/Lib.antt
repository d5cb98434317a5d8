pub mod Seated
pub mod StepRooms
