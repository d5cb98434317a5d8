use Rattle.std.proofs.Common.{[], ℕ, Some, None, sym, ap, ◌∙◌}
use Rattle.omi_outside.specs.Outside.{Told, content_len}
use Rattle.omi_elf.proofs.decoding.contents_of.Goals as goal

told_len : Told → ℕ
told_len (Some content) = content_len content
told_len None = 0

pub read_elf-requires : goal.read_elf-requires
unfolding told_len
read_elf-requires c = record { len = λ content told. ap told_len (sym told ∙ c.over-file.ensures.told []) }

pub returns-in-Ok-clause-rows : goal.returns-in-Ok-clause-rows
returns-in-Ok-clause-rows c = c.in-Ok.ensures.rows c.args.bytes.now (c.over-file.ensures.told [])

pub returns-in-Ok-clause-order : goal.returns-in-Ok-clause-order
returns-in-Ok-clause-order c = c.in-Ok.ensures.order c.args.bytes.now (c.over-file.ensures.told [])

pub returns-in-Ok-clause-contexts : goal.returns-in-Ok-clause-contexts
returns-in-Ok-clause-contexts c = c.in-Ok.ensures.contexts c.args.bytes.now (c.over-file.ensures.told [])

pub returns-in-Ok-clause-segments : goal.returns-in-Ok-clause-segments
returns-in-Ok-clause-segments c = c.in-Ok.ensures.segments c.args.bytes.now (c.over-file.ensures.told [])

pub returns-in-Err-Fault-clause-rows : goal.returns-in-Err-Fault-clause-rows
returns-in-Err-Fault-clause-rows c =
    rw c.in-Err-Fault.field-0-is at c.in-Err-Fault.ensures.rows c.args.bytes.now (c.over-file.ensures.told [])
