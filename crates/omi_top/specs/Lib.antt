-- The definitions to believe, in reading order: the promise of the whole; what a run of `stop` is to be, what a command line asks for, what the
-- file of a core is, what a core is to `show`, what a run is, what becomes of tasks between two stops of one; the verbs, each with its answers and its
-- promise in a file of its name; that there is at most one run; and that a core is shown alike in either order, and as an ELF file.
pub mod Promise
pub mod Plan
pub mod Command
pub mod Forms
pub mod Files
pub mod Cores
pub mod Questions
pub mod Shown
pub mod Audit
pub mod Follow
pub mod Run
pub mod Lines
pub mod Make
pub mod Recode
pub mod Elf
pub mod Between
pub mod Kinds
pub mod verbs
pub mod CommandVerbs
pub mod Determined
pub mod Recoded
-- What private functions of the code stand on: a request as a command; what stays of the files; what the
-- commands share that write a copy; and a run that was made
pub mod Asked
pub mod Apart
pub mod Copy
pub mod Ran
