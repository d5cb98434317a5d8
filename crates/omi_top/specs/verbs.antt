-- The verbs: what each answers, by what is told of the files that it reads, and what it promises.
pub mod Stop
pub mod Make
pub mod Show
pub mod Run
pub mod Copy
pub mod Recode
pub mod Elf
pub mod Audit
pub mod Follow
