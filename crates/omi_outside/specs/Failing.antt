-- Which calls of the forms in memory fail: those that a list has, by the number of the call among
-- the calls of its kind.
use Rattle.std.specs.Prelude.{◌≡◌, ◌≢◌, ℕ, List}
use Rattle.std.specs.List.{Contains}
use Rattle.omi_outside.specs.Outside.{one_more}
use Rattle.omi_outside.specs.declared.memory_files.Call.{Call}
use Rattle.omi_outside.specs.declared.memory_files.Call.TheVariants.{Size, ReadAt, Create, Append}
use Rattle.omi_outside.specs.declared.memory_files.MemFiles.{MemFiles}
use Rattle.omi_outside.specs.declared.memory_sink.MemSink.{MemSink}

-- How many calls of a kind were made.
abbrev pub calls_made : MemFiles → Call → ℕ
calls_made files Size = files.made.size
calls_made files ReadAt = files.made.read_at
calls_made files Create = files.made.create
calls_made files Append = files.made.append

-- The calls that are to fail.
abbrev pub failing_calls : MemFiles → List (Call × ℕ)
failing_calls files = files.failing.items

-- One call of this kind was made, and none of another. The list of failing calls stays.
pub record IsCalled (call : Call) (old new : MemFiles) : Type 0 where
  pub counted : calls_made new call ≡ one_more (calls_made old call)
  pub others : (other : Call) → other ≢ call → calls_made new other ≡ calls_made old other
  pub list : failing_calls new ≡ failing_calls old

-- The last call of this kind is one that is to fail.
abbrev pub IsToFail : Call → MemFiles → Type 0
IsToFail call files = Contains (failing_calls files) (call, calls_made files call)

-- No call was made, and the list of failing calls stays.
pub record IsNotCalled (old new : MemFiles) : Type 0 where
  pub counted : (call : Call) → calls_made new call ≡ calls_made old call
  pub list : failing_calls new ≡ failing_calls old

-- How many puts were made, and which are to fail.
abbrev pub puts_made : MemSink → ℕ
puts_made sink = sink.made

abbrev pub failing_puts : MemSink → List ℕ
failing_puts sink = sink.failing.items

-- One put was made. The list of failing puts stays.
pub record IsPut (old new : MemSink) : Type 0 where
  pub counted : puts_made new ≡ one_more (puts_made old)
  pub list : failing_puts new ≡ failing_puts old

-- The last put is one that is to fail.
abbrev pub IsPutToFail : MemSink → Type 0
IsPutToFail sink = Contains (failing_puts sink) (puts_made sink)
