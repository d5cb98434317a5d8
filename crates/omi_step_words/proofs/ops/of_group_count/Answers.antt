use Rattle.std.proofs.Common.{◌+◌, ◌<◌, ◌%◌, sym, subst, arith}
use Rattle.omi_layout.specs.Place.{IsSlot}
use Rattle.omi_layout.proofs.Arenas.{some_tasks, some_threads}
use Rattle.omi_layout.proofs.SlotWords.{group_word_within}
use Rattle.omi_pc.specs.declared.place.Place.{Place}
use Rattle.omi_step_words.proofs.Places.{slot_there}
use Rattle.omi_step_words.proofs.ops.of_group_count.Goals as goal

-- the count is a word of the owner's record
pub word_at-requires : goal.word_at-requires
word_at-requires c =
    let w = c.args.l.now.table in
    let less : c.args.word % c.from.result < 4 =
    subst (λ n. c.args.word % n < 4) (sym c.from.ensures) (omega arith) in
    record {
      field = record { from = omega arith; to = omega arith };
      record_slot = subst (λ (p : Place). IsSlot w 4 p.creator p.slot) (sym c.task_place-owner.ensures)
          (slot_there w 4 _ (some_tasks w c.args.l.now.valid) (some_threads w c.args.l.now.valid));
      within = group_word_within w (6 + c.args.word % c.from.result) c.requires (omega (arith, less));
    }
