-- In reading order. To be believed: what the outside tells and when a call may fail, and the exit
-- statuses.
pub mod Outside
pub mod Status
-- To be believed of real files: the counts.
pub mod Disk
-- To be believed of the forms in memory alone: what they tell, and which calls fail.
pub mod Memory
pub mod Failing
-- Glue: the cause of a whole read's refusal, from that of a call.
pub mod Whole
