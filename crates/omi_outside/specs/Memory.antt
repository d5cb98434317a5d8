-- What the forms in memory tell: of a name always its bytes, or that there is no such file; and
-- their counts.
use Rattle.std.specs.Prelude.{ℕ, List, Option, Some, String, Vec}
use Rattle.std.specs.Option.{option_map}
use Rattle.std.specs.declared.alloc.Global.{Global}
use Rattle.std.specs.BTreeMap.{BTreeMap, get_by_text}
use Rattle.omi_outside.specs.Outside.{Told}
use Rattle.omi_outside.specs.declared.memory_files.MemFiles.{MemFiles}
use Rattle.omi_outside.specs.declared.memory_sink.MemSink.{MemSink}

-- Names, each with the bytes under it.
abbrev pub Held : Type 0
Held = BTreeMap (String Global) (Vec ℕ Global)

-- The bytes under a name, where there is such a file.
abbrev pub content_of : Held → List ℕ → Option (List ℕ)
content_of held name = option_map (λ bytes. bytes.items) (get_by_text held name)

-- What is told of a name.
abbrev pub told_by : Held → List ℕ → Told
told_by held name = Some (content_of held name)

-- What files tell of their names, and how often their reads and their writes have failed.
abbrev pub told_of : MemFiles → List ℕ → Told
told_of files = told_by files.held

abbrev pub read_faults : MemFiles → ℕ
read_faults files = files.reads

abbrev pub write_faults : MemFiles → ℕ
write_faults files = files.writes

-- What a sink tells, how often its puts have failed, and how often they lacked memory.
abbrev pub put_bytes : MemSink → Option (List ℕ)
put_bytes sink = Some sink.bytes.items

abbrev pub put_faults : MemSink → ℕ
put_faults sink = sink.faults

abbrev pub put_wants : MemSink → ℕ
put_wants sink = sink.wants
