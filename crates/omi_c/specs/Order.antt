-- The order of objects, as a number.
use Rattle.std.specs.Prelude.{ℤ, pos, negsuc}
use Rattle.std.specs.declared.cmp.Ordering.{Ordering}
use Rattle.std.specs.declared.cmp.Ordering.TheVariants.{Less, Equal, Greater}
use Rattle.omi_handle.specs.declared.handle.Held.{Held}
use Rattle.omi_handle.specs.declared.handle.Kind.TheVariants.{Thread}
use Rattle.omi_session.specs.Handles.{held_cmp}
use Rattle.omi_c.specs.declared.answers.Object.{Object}

abbrev pub order_number : Ordering → ℤ
order_number Less = negsuc 0
order_number Equal = pos 0
order_number Greater = pos 1

-- the kind of the objects makes no difference
abbrev pub held_by : Object → Held
held_by o = record { kind = Thread; addr = o.addr; life = o.life }

abbrev pub order_of : Object → Object → ℤ
order_of a b = order_number (held_cmp (held_by a) (held_by b))
