pub mod ShownTasks
