-- What the clauses of the top call say of a command that writes a copy of a core, from what it leaves.
use Rattle.std.proofs.Common.{◌≡◌, inl, inr, ℕ, false, List, Option, Some, None, Ok, Err, refl, sym, ◌∙◌, ap, subst}
use Rattle.omi_outside.specs.Outside.{Told, holding, put_on}
use Rattle.omi_outside.specs.declared.status.Status.{Status}
use Rattle.omi_outside.specs.declared.status.Status.TheVariants as status
use Rattle.omi_corefile.specs.Outcomes.{IsCore}
use Rattle.omi_corefile.proofs.FileLaws.{core_not_refused}
use Rattle.omi_frame.specs.declared.refusal.Refusal.{Refusal}
use Rattle.omi_frame.specs.Refusal.{status_of}
use Rattle.omi_frame.specs.Statuses.{IsFaultStatus, ComesWhere, IsDoneOrFailed}
use Rattle.omi_frame.specs.Verb.{Answer, Gives, Verb}
use Rattle.omi_frame.specs.Left.{IsLeft}
use Rattle.omi_top.specs.Elf.{IsElfCopy}
use Rattle.omi_top.specs.Files.{HasFaultBy}
use Rattle.omi_top.specs.Questions.{IsCoreRefusal}
use Rattle.omi_top.specs.Recode.{IsRecodedCopy}
use Rattle.omi_frame.proofs.Statuses.{DidMore, DoesMore, IsDoneStatus, one_content, comes_where, never_refused, written_more}
use Rattle.omi_top.specs.verbs.Copy.{IsCopyAnswer, copy_verb}
use Rattle.omi_top.specs.verbs.Elf.{ElfPromise, elf_verb}
use Rattle.omi_top.specs.verbs.Recode.{RecodePromise, recode_verb}

-- the file holds a core
abbrev HoldsCore : Option (List ℕ) → Type 0
HoldsCore None = ⊥
HoldsCore (Some bytes) = IsCore bytes

-- a file of which there are copies is a core
module _ (copies : List ℕ → List ℕ → List ℕ → Type 0) (of_core : (bytes copy line : List ℕ) → copies bytes copy line → IsCore bytes)
    (core copy : List ℕ) (told : List ℕ → Told) where
  abbrev verb : Verb
  verb = copy_verb copies core copy

  -- what an answer says of the core, where the core's content is told
  module _ (content : Option (List ℕ)) (is : told core ≡ Some content) where
    copy_answer : (a : Answer) → verb.answers told a → IsCopyAnswer copies content a
    copy_answer a (c, here, answer) =
        subst (λ (x : Option (List ℕ)). IsCopyAnswer copies x a) (one_content (told core) c content here is) answer

    refusals : (written : Option (List ℕ)) (r : Refusal) → verb.answers told (Gives written (Err r))
        → IsCoreRefusal content r
    refusals written r answer = go content written (copy_answer (Gives written (Err r)) answer)
      where
        go : (c written : Option (List ℕ)) → IsCopyAnswer copies c (Gives written (Err r)) → IsCoreRefusal c r
        go None None said = said
        go (Some bytes) None said = said
        go None (Some core) said = absurd said
        go (Some bytes) (Some core) said = absurd said

    holds : (a : Answer) → DoesMore a → verb.answers told a → HoldsCore content
    holds a more answer = go content a more (copy_answer a answer)
      where
        go : (c : Option (List ℕ)) (a : Answer) → DoesMore a → IsCopyAnswer copies c a → HoldsCore c
        go c (Gives None (Err r)) more said = absurd more
        go None (Gives None (Ok text)) more said = absurd said
        go None (Gives (Some core) (Ok text)) more said = absurd said
        go None (Gives (Some core) (Err r)) more said = absurd said
        go (Some bytes) (Gives None (Ok text)) more said = absurd said
        go (Some bytes) (Gives (Some core) (Err r)) more said = absurd said
        go (Some bytes) (Gives (Some core) (Ok text)) more said = of_core bytes core text said

    did : DidMore verb told → HoldsCore content
    did (inl (a, more, answer)) = holds a more answer
    did (inr (bytes, (says, answer))) =
        holds (Gives (Some bytes) says) (written_more bytes says) answer

  module _ (old new : Told) (counted : Type 0) (out after : Option (List ℕ)) where
    -- a status comes exactly where a fact holds of the core's content
    comes : (content : Option (List ℕ)) → told core ≡ Some content → (refused s : Status) (fact : Type 0)
        → (IsFaultStatus refused → ⊥) → (IsDoneStatus refused → ⊥)
        → ((r : Refusal) → IsCoreRefusal content r → status_of r ≡ refused → fact) → (fact → (r : Refusal) → IsCoreRefusal content r → status_of r ≡ refused) → (fact → HoldsCore content → ⊥)
        → IsLeft verb told s old new counted out after → ComesWhere refused s fact
    comes content is =
        comes_where verb told old new counted out after (IsCoreRefusal content) (HoldsCore content)
        (refusals content is) (did content is)

    -- there is no file exactly where the status says so
    pub no_file : (s : Status) (content : Option (List ℕ)) → told core ≡ Some content
        → IsLeft verb told s old new counted out after → ComesWhere status.NoFile s (content ≡ None)
    no_file s content is =
        comes content is status.NoFile s (content ≡ None) (λ no. no) (λ no. no) (says content) (all content)
        (none content)
      where
        says : (c : Option (List ℕ)) (r : Refusal) → IsCoreRefusal c r → status_of r ≡ status.NoFile
            → c ≡ None
        says None r refuses is = refl
        says (Some bytes) r (at, why, refused, same) is =
            let wrong : status.Core ≡ status.NoFile = ap status_of (sym same) ∙ is in absurd (cc)

        all : (c : Option (List ℕ)) → c ≡ None → (r : Refusal) → IsCoreRefusal c r
            → status_of r ≡ status.NoFile
        all None missing r is = ap status_of is
        all (Some bytes) missing r is = absurd (cc)

        none : (c : Option (List ℕ)) → c ≡ None → HoldsCore c → ⊥
        none None missing holds = holds
        none (Some bytes) missing holds = cc missing

    -- the grammar of core files refuses exactly where the status says so
    pub core_refused : (s : Status) (bytes : List ℕ) → told core ≡ Some (Some bytes)
        → IsLeft verb told s old new counted out after
        → ComesWhere status.Core s (HasFaultBy false bytes)
    core_refused s bytes is =
        comes (Some bytes) is status.Core s (HasFaultBy false bytes) (λ no. no) (λ no. no) says all
        (λ refused holds. core_not_refused bytes holds refused)
      where
        says : (r : Refusal) → IsCoreRefusal (Some bytes) r → status_of r ≡ status.Core → HasFaultBy false bytes
        says r (at, why, refused, same) is = (at, why, refused)

        all : HasFaultBy false bytes → (r : Refusal) → IsCoreRefusal (Some bytes) r → status_of r ≡ status.Core
        all fault r (at, why, refused, same) = ap status_of same

    -- a core is refused nothing
    pub copied : (s : Status) (bytes : List ℕ) → told core ≡ Some (Some bytes) → IsCore bytes
        → IsLeft verb told s old new counted out after → IsDoneOrFailed s
    copied s bytes is holds = never_refused verb told old new counted out after none s
      where
        none : (written : Option (List ℕ)) (r : Refusal)
            → verb.answers told (Gives written (Err r)) → ⊥
        none written r answer =
            let (at, why, refused, same) = refusals (Some bytes) is written r answer in
            core_not_refused bytes holds (at, why, refused)

    -- what success leaves
    abbrev pub Copied : List ℕ → Type 0
    Copied bytes =
        (written line : List ℕ) × copies bytes written line × (new ≡ holding old written) × (after ≡ put_on out line)

    pub success : (s : Status) (bytes : List ℕ) → told core ≡ Some (Some bytes) → s ≡ status.Success
        → IsLeft verb told s old new counted out after → Copied bytes
    success s bytes is done left =
        go (subst (λ (x : Status). IsLeft verb told x old new counted out after) done left)
      where
        go : IsLeft verb told status.Success old new counted out after → Copied bytes
        go (None, text, answer, held, put) = absurd (copy_answer (Some bytes) is (Gives None (Ok text)) answer)
        go (Some written, text, answer, held, put) =
            (written, text, copy_answer (Some bytes) is (Gives (Some written) (Ok text)) answer, held, put)

-- ---- the commands that do so

recode_of_core : (order : ℕ) (bytes copy line : List ℕ) → IsRecodedCopy order bytes copy line → IsCore bytes
recode_of_core order bytes copy line (recoded, says) = (recoded.core, recoded.spelled)

elf_of_core : (bytes copy line : List ℕ) → IsElfCopy bytes copy line → IsCore bytes
elf_of_core bytes copy line is = (is.core, is.spelled)

-- what is left keeps the promises
module _ (core copy : List ℕ) (told : List ℕ → Told) (old new : Told) (counted : Type 0)
    (out after : Option (List ℕ)) where
  pub recode_kept : (order : ℕ) (s : Status)
      → ((recode_verb order core copy).are_told told → IsLeft (recode_verb order core copy) told s old new counted out after)
      → RecodePromise order core copy s told old new out after
  recode_kept order s left = record {
    no_file = λ content is. no_file (IsRecodedCopy order) (recode_of_core order) core copy told old new counted out after s content is (left (content, is));
    core_fault = λ bytes is. core_refused (IsRecodedCopy order) (recode_of_core order) core copy told old new counted out after s bytes is (left (Some bytes, is));
    accepts = λ bytes is image spelled.
        copied (IsRecodedCopy order) (recode_of_core order) core copy told old new counted out after s bytes is (image, spelled) (left (Some bytes, is));
    success = λ bytes is done.
        let (written, line, (recoded, says), held, put) =
        success (IsRecodedCopy order) (recode_of_core order) core copy told old new counted out after s bytes is done (left (Some bytes, is)) in
        (written, recoded, held, put ∙ ap (λ (t : List ℕ). put_on out t) says);
  }

  pub elf_kept : (s : Status) → ((elf_verb core copy).are_told told → IsLeft (elf_verb core copy) told s old new counted out after)
      → ElfPromise core copy s told old new out after
  elf_kept s left = record {
    no_file = λ content is. no_file IsElfCopy elf_of_core core copy told old new counted out after s content is (left (content, is));
    core_fault = λ bytes is. core_refused IsElfCopy elf_of_core core copy told old new counted out after s bytes is (left (Some bytes, is));
    accepts = λ bytes is image spelled.
        copied IsElfCopy elf_of_core core copy told old new counted out after s bytes is (image, spelled) (left (Some bytes, is));
    success = λ bytes is done.
        let (written, line, made, held, put) =
        success IsElfCopy elf_of_core core copy told old new counted out after s bytes is done (left (Some bytes, is)) in
        (made.core, made.spelled, held ∙ ap (λ (t : List ℕ). holding old t) made.copied, put ∙ ap (λ (t : List ℕ). put_on out t) made.says);
  }
