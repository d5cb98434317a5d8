-- Files that stand for cores with the same contexts and words are the same to `show`.
use Rattle.std.proofs.Common.{◌≡◌, inl, inr, ℕ, List, Some, None, Ok, Err, refl, sym, ◌∙◌, ap, subst}
use Rattle.omi_calls.specs.CoreWords.{words_of_segments as segment_words}
use Rattle.omi_calls.specs.Told.{aligned_word_at}
use Rattle.omi_corefile.specs.Spelling.{spelling}
use Rattle.omi_corefile.specs.declared.core_image.CoreImage.{CoreImage}
use Rattle.omi_corefile.specs.declared.segment.Segment.{Segment}
use Rattle.omi_elf.specs.ElfCore.{ElfCore}
use Rattle.omi_elf.proofs.WrittenCore.{written_core}
use Rattle.omi_layout.specs.Given.{GivesLayout}
use Rattle.omi_layout.specs.NoLayout.{GivesNone}
use Rattle.omi_model.specs.declared.view.View.{View}
use Rattle.omi_rep.specs.Look.{Look}
use Rattle.omi_rep.specs.LookView.{look_view}
use Rattle.omi_text.specs.Report.{report}
use Rattle.omi_word.specs.Words.{Words}
use Rattle.omi_frame.specs.Verb.{Answer, Gives}
use Rattle.omi_top.specs.verbs.Show.{IsReportOf, IsShowAnswer, IsShowRefusal}
use Rattle.omi_top.specs.Cores.{IsLooked, Spells, words_of_core, AreAlike}
use Rattle.omi_top.specs.Elf.{IsElfCopy}
use Rattle.omi_page.specs.CoreFiles.{IsFileOf}
use Rattle.omi_top.specs.Recode.{IsRecoded}
use Rattle.omi_top.specs.Recoded.{HaveOneAnswer}
use Rattle.omi_top.proofs.Files.{core_is_file, elf_is_file, file_not_refused}
use Rattle.omi_page.proofs.OpenedFiles.{file_unique}
use Rattle.omi_top.specs.Shown.{IsRefusedCore}
use Rattle.omi_top.proofs.ShowVerdicts.{one_looked, one_refusal, one_view, report_not_refused}
use Rattle.omi_frame.specs.declared.refusal.Refusal.{Refusal}

-- ---- two cores with the same contexts and words

looked_alike : (core other : CoreImage) → other.contexts ≡ core.contexts → words_of_core other ≡ words_of_core core
    → (x : Look View) → IsLooked core x → IsLooked other x
looked_alike core other contexts words x looked = record {
  w = looked.w;
  valid = looked.valid;
  layout = subst (λ (ws : Words). GivesLayout ws looked.w) (sym words) looked.layout;
  is = (λ i. look_view looked.w (words i) (contexts i)) ∙ looked.is;
}

refused_alike : (core other : CoreImage) → other.contexts ≡ core.contexts → words_of_core other ≡ words_of_core core
    → (r : Refusal) → IsRefusedCore core r → IsRefusedCore other r
refused_alike core other contexts words r (inl (cause, none, is)) =
    inl (cause, subst (λ (ws : Words). GivesNone ws cause) (sym words) none, is)
refused_alike core other contexts words r (inr (fault, looked, is)) =
    inr (fault, looked_alike core other contexts words (Err fault) looked, is)

-- what holds of the core that a file stands for
spelled_as : (bytes : List ℕ) (core : CoreImage) (P : CoreImage → Type 0) → IsFileOf bytes core → Spells bytes P
    → P core
spelled_as bytes core P is (other, also, holds) = subst P (file_unique bytes other core also is) holds

-- ---- the files of two such cores

pub back : (bytes other : List ℕ) → AreAlike bytes other → AreAlike other bytes
back bytes other alike = record {
  core = alike.second;
  is = alike.also;
  second = alike.core;
  also = alike.is;
  contexts = sym alike.contexts;
  words = sym alike.words;
}

module _ (bytes other : List ℕ) (alike : AreAlike bytes other) where
  pub report_alike : (text : List ℕ) → IsReportOf bytes text → IsReportOf other text
  report_alike text (v, spells, is) =
      (v, (alike.second, alike.also, looked_alike alike.core alike.second alike.contexts alike.words (Ok v) (spelled_as bytes alike.core (λ c. IsLooked c (Ok v)) alike.is spells)), is)

  refusal_alike : (r : Refusal) → IsShowRefusal (Some bytes) r → IsShowRefusal (Some other) r
  refusal_alike r (inl told) = absurd (file_not_refused bytes alike.core r alike.is told)
  refusal_alike r (inr spells) =
      inr
      (alike.second, alike.also, refused_alike alike.core alike.second alike.contexts alike.words r (spelled_as bytes alike.core (λ c. IsRefusedCore c r) alike.is spells))

  answer_alike : (a : Answer) → IsShowAnswer (Some bytes) a → IsShowAnswer (Some other) a
  answer_alike (Gives None (Ok text)) said = report_alike text said
  answer_alike (Gives None (Err r)) said = refusal_alike r said
  answer_alike (Gives (Some written) (Ok text)) said = absurd said
  answer_alike (Gives (Some written) (Err r)) said = absurd said

pub shows_alike : (bytes other : List ℕ) → AreAlike bytes other → HaveOneAnswer bytes other
shows_alike bytes other alike a =
    (answer_alike bytes other alike a, answer_alike other bytes (back bytes other alike) a)

-- ---- files of one core

-- two files that stand for cores with the same contexts and segments
same_segments : (bytes other : List ℕ) (core second : CoreImage) → IsFileOf bytes core → IsFileOf other second
    → second.contexts ≡ core.contexts → second.segments ≡ core.segments → AreAlike bytes other
same_segments bytes other core second is also contexts segments = record {
  core = core;
  is = is;
  second = second;
  also = also;
  contexts = contexts;
  words = ap (λ (ss : List Segment). aligned_word_at (segment_words ss)) segments;
}

pub recoded_alike : (order : ℕ) (bytes copy : List ℕ) → IsRecoded order bytes copy → AreAlike bytes copy
recoded_alike order bytes copy r =
    same_segments bytes copy r.core r.other (core_is_file bytes r.core r.spelled) (core_is_file copy r.other r.copied) r.contexts_are r.segments_are

pub elf_alike : (bytes : List ℕ) (core : CoreImage) → ElfCore bytes core → AreAlike bytes (spelling core)
elf_alike bytes core is =
    same_segments bytes (spelling core) core core (elf_is_file bytes core is) (core_is_file (spelling core) core refl) refl refl

pub elf_copy_alike : (bytes copy line : List ℕ) → IsElfCopy bytes copy line → AreAlike bytes copy
elf_copy_alike bytes copy line r =
    same_segments bytes copy r.core r.core (core_is_file bytes r.core r.spelled)
    (elf_is_file copy r.core (subst (λ (xs : List ℕ). ElfCore xs r.core) (sym r.copied) (written_core r.core))) refl refl

-- ---- one answer

-- a file has one report
pub one_report : (bytes text other : List ℕ) → IsReportOf bytes text → IsReportOf bytes other → text ≡ other
one_report bytes text other (v, (core, stands, looked), is) (u, spells, also) =
    let there = spelled_as bytes core (λ c. IsLooked c (Ok u)) stands spells in
    is ∙ ap report (one_view v u (one_looked core (Ok v) (Ok u) looked there)) ∙ sym also

pub one_answer : (bytes : List ℕ) (a b : Answer) → IsShowAnswer (Some bytes) a → IsShowAnswer (Some bytes) b
    → a ≡ b
one_answer bytes (Gives None (Ok text)) (Gives None (Ok other)) said also =
    ap (λ (t : List ℕ). Gives None (Ok t)) (one_report bytes text other said also)
one_answer bytes (Gives None (Ok text)) (Gives None (Err r)) (v, spells, is) also =
    absurd (report_not_refused bytes v r spells also)
one_answer bytes (Gives None (Err r)) (Gives None (Ok text)) said (v, spells, is) =
    absurd (report_not_refused bytes v r spells said)
one_answer bytes (Gives None (Err r)) (Gives None (Err s)) said also =
    ap (λ (x : Refusal). Gives None (Err x)) (one_refusal (Some bytes) r s said also)
one_answer bytes (Gives (Some written) (Ok text)) b said also = absurd said
one_answer bytes (Gives (Some written) (Err r)) b said also = absurd said
one_answer bytes (Gives None (Ok text)) (Gives (Some written) (Ok other)) said also = absurd also
one_answer bytes (Gives None (Ok text)) (Gives (Some written) (Err r)) said also = absurd also
one_answer bytes (Gives None (Err r)) (Gives (Some written) (Ok other)) said also = absurd also
one_answer bytes (Gives None (Err r)) (Gives (Some written) (Err s)) said also = absurd also
