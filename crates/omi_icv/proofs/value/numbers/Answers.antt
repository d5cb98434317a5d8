use Rattle.std.proofs.Common.{◌≡◌, ℕ, List, refl, subst}
use Rattle.omi_session.specs.Reads.{Answers}
use Rattle.omi_icv.specs.declared.variable.Source.{Source}
use Rattle.omi_icv.specs.declared.variable.Source.TheVariants.{Word, TeamSize, Elements, MemberNumber}
use Rattle.omi_icv.specs.Values.{alone, number_in, numbers_in}
use Rattle.omi_icv.proofs.value.numbers.Goals as goal

-- a value that is no list is one number alone
alone_unless : (w : List ℕ) (address : ℕ) (source : Source) → (source ≡ Elements → ⊥)
    → alone (number_in w source address) ≡ numbers_in w source address
alone_unless w address (Word field) other = refl
alone_unless w address TeamSize other = refl
alone_unless w address Elements other = absurd (other refl)
alone_unless w address MemberNumber other = refl

pub returns-in_default : goal.returns-in_default
returns-in_default g c = record {
  answer = subst (Answers g.C.Callbacks.told g.C.Callbacks.asked c.args.s.now c.number_alone.new.s c.number_alone.result) (alone_unless c.args.s.now.layout c.args.address c.args.source c.in_default.not-Elements) c.number_alone.ensures.answer;
  memory = c.number_alone.ensures.memory;
  same = c.number_alone.ensures.same;
  cause = c.number_alone.ensures.cause;
}
