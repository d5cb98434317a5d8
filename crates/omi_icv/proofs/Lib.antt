pub mod Elements
pub mod Joined
pub mod Written
pub mod ByNumber
pub mod Shown
pub mod ShownVariables
pub mod ShownInquiries
pub mod Scoping
