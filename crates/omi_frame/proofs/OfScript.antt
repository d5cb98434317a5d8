-- What a verb of a script gave by each exit, and what the clauses of a top call say of what it leaves.
use Rattle.std.proofs.Common.{◌≡◌, ◌≢◌, ◌⊎◌, ◌≤◌, inl, inr, ℕ, true, List, Option, Some, None, Ok, Err, refl, sym, ◌∙◌, ap, subst}
use Rattle.std.specs.Prelude.{Result, IsErrAnd}
use Rattle.std.specs.Global.{Vec}
use Rattle.omi_outside.specs.Outside.{HasCause, IsCut, Rose, Told, holding, put_on}
use Rattle.omi_outside.specs.declared.files.Refused.{Refused as RefusedWrite}
use Rattle.omi_outside.specs.declared.files.Refused.TheVariants as refused
use Rattle.omi_outside.specs.declared.status.Status.{Status}
use Rattle.omi_outside.specs.declared.status.Status.TheVariants as status
use Rattle.omi_script.specs.Grammar.{Refused}
use Rattle.omi_script.proofs.OneProgram.{one_program}
use Rattle.omi_script.proofs.VerdictLemmas.{not_both}
use Rattle.omi_script.specs.declared.fault.ScriptFault.{ScriptFault}
use Rattle.omi_script.specs.declared.program.Program.{Program}
use Rattle.omi_frame.specs.Concluded.{Performed}
use Rattle.omi_frame.specs.Left.{Holds, IsAnswered, IsEarly, IsLeft}
use Rattle.omi_frame.specs.OfScript.{IsAnswerOf, IsBeforeWriting, IsGiven, IsLacking, IsRefusalOf, ScriptVerb, of_script}
use Rattle.omi_frame.specs.Refusal.{IsReadFault, IsUnread, refusal_of_write, status_of}
use Rattle.omi_frame.specs.Scripts.{IsOfScript, IsProgramIn, IsScriptRefusal}
use Rattle.omi_frame.specs.Seen.{SeenFiles}
use Rattle.omi_frame.specs.Statuses.{ComesWhere, IsFaultStatus, IsPrinting}
use Rattle.omi_frame.specs.Verb.{Answer, Gives, Writes, WritesOne, name_or_none, written_name}
use Rattle.omi_frame.specs.declared.refusal.Input.TheVariants as input
use Rattle.omi_frame.specs.declared.refusal.Refusal.{Refusal}
use Rattle.omi_frame.specs.declared.refusal.Refusal.TheVariants as refusal
use Rattle.omi_frame.proofs.Concluding.{IsProper, is_fault}
use Rattle.omi_frame.proofs.Elsewhere.{late, never_elsewhere, never_of_core, never_usage, write_failed, write_not_of_core, write_not_read}
use Rattle.omi_frame.proofs.Statuses.{DidMore, DoesMore, IsDoneStatus, comes_where, one_content}

-- ---- no fault of the outside is what an answer says

script_proper : (content : Option (List ℕ)) (r : Refusal) → is_fault r ≡ true → IsScriptRefusal content r → ⊥
script_proper None r fault is = let wrong : is_fault (refusal.NoFile input.Script) ≡ true = ap is_fault (sym is) ∙ fault in cc
script_proper (Some bytes) r fault (f, why, is) = let wrong : is_fault (refusal.Script f) ≡ true = ap is_fault (sym is) ∙ fault in cc

pub proper : (v : ScriptVerb) → IsProper (of_script v)
proper v told None r fault (content, is, inl refuses) = script_proper content r fault refuses
proper v told None r fault (content, is, inr (usage, lacking)) = let wrong : is_fault refusal.Usage ≡ true = ap is_fault (sym usage) ∙ fault in cc
proper v told (Some bytes) r fault (content, is, answer) = answer

-- ---- the exits of a verb

module _ (v : ScriptVerb) (files files_now dest dest_now : SeenFiles) where
  -- the script is refused, or can't be read
  pub refused_performed : (r : Refusal)
      → ((content : Option (List ℕ)) → files.told v.script ≡ Some content → IsScriptRefusal content r ⊎ IsUnread input.Script r)
      → IsOfScript r → (let answered : Result (Vec ℕ) Refusal = Err r in HasCause files.reads files_now.reads (IsErrAnd answered IsReadFault))
      → dest_now.told ≡ dest.told → dest.writes ≤ dest_now.writes
      → Performed (of_script v) (Err r) files files_now dest dest_now
  refused_performed r refuses kind cause same writes = record {
    answer = λ (content, told). answered content told (refuses content told);
    read = cause;
    write = record { later = writes; failed = λ is. absurd (never_elsewhere r refusal.WriteFault kind refl is) };
    written = λ is. absurd (never_elsewhere r refusal.WriteFault kind refl is);
    usage = λ is. absurd (never_elsewhere r refusal.Usage kind refl is);
    of_core = never_of_core r kind;
    unwritten = λ s ends nothing. same;
    others = λ other not. ap (λ (t : List ℕ → Told). t other) same;
  }
    where
      stays : dest_now.told (written_name (of_script v)) ≡ dest.told (written_name (of_script v))
      stays = ap (λ (t : List ℕ → Told). t (written_name (of_script v))) same

      answered : (content : Option (List ℕ)) → files.told v.script ≡ Some content
          → IsScriptRefusal content r ⊎ IsUnread input.Script r
          → IsAnswered (of_script v) files.told (Err r) (dest.told (written_name (of_script v))) (dest_now.told (written_name (of_script v)))
      answered content told (inl why) = inl (None, (content, told, inl why), stays)
      answered content told (inr (inl failed)) =
          inr (inl (subst (λ (x : Refusal). IsEarly (of_script v) x) (sym failed) tt, stays))
      answered content told (inr (inr memory)) =
          inr (inl (subst (λ (x : Refusal). IsEarly (of_script v) x) (sym memory) tt, stays))

  module _ (reads : files.reads ≤ files_now.reads) (p : Program)
      (holds : (content : Option (List ℕ)) → files.told v.script ≡ Some content → IsProgramIn content p) where
    -- memory ran out before anything was written
    pub memory_performed : dest_now.told ≡ dest.told → dest.writes ≤ dest_now.writes
        → Performed (of_script v) (Err refusal.OutOfMemory) files files_now dest dest_now
    memory_performed same writes = record {
      answer = λ (content, told). inr (inl (tt, ap (λ (t : List ℕ → Told). t (written_name (of_script v))) same));
      read = record { later = reads; failed = λ is. absurd is };
      write = record { later = writes; failed = λ is. absurd (cc) };
      written = λ is. absurd (cc);
      usage = λ is. absurd (cc);
      of_core = λ is. is;
      unwritten = λ s ends nothing. same;
      others = λ other not. ap (λ (t : List ℕ → Told). t other) same;
    }

    -- the program lacks what the words name
    pub lacking_performed : v.lacks p → v.may_lack → dest_now.told ≡ dest.told → dest.writes ≤ dest_now.writes
        → Performed (of_script v) (Err refusal.Usage) files files_now dest dest_now
    lacking_performed lacks may same writes = record {
      answer = λ (content, told). inl (None, (content, told, inr (refl, (p, holds content told, lacks))), ap (λ (t : List ℕ → Told). t (written_name (of_script v))) same);
      read = record { later = reads; failed = λ is. absurd is };
      write = record { later = writes; failed = λ is. absurd (cc) };
      written = λ is. absurd (cc);
      usage = λ is. may;
      of_core = λ is. is;
      unwritten = λ s ends nothing. same;
      others = λ other not. ap (λ (t : List ℕ → Told). t other) same;
    }

    -- nothing is written, and the text is handed up
    pub said_performed : (text : Vec ℕ) → v.gives p None text.items → dest_now.told ≡ dest.told → dest.writes ≤ dest_now.writes
        → Performed (of_script v) (Ok text) files files_now dest dest_now
    said_performed text gives same writes = record {
      answer = λ (content, told). (None, (content, told, (p, holds content told, gives)), ap (λ (t : List ℕ → Told). t (written_name (of_script v))) same);
      read = record { later = reads; failed = λ is. absurd is };
      write = record { later = writes; failed = λ is. absurd (cc) };
      written = λ is. absurd (cc);
      usage = λ is. absurd (cc);
      of_core = tt;
      unwritten = λ s ends nothing. same;
      others = λ other not. ap (λ (t : List ℕ → Told). t other) same;
    }

    module _ (name : List ℕ) (writes : v.writes ≡ Some name)
        (others : (other : List ℕ) → other ≢ name → dest_now.told other ≡ dest.told other) where
      one_written : WritesOne (of_script v)
      one_written = (name, writes)

      named : name_or_none v.writes ≡ name
      named = ap name_or_none writes

      not_written : (other : List ℕ) → (Writes (of_script v) other → ⊥) → other ≢ name
      not_written other not is = not (writes ∙ ap Some (sym is))

      -- its file is not written to its end
      pub cut_performed : (core text : List ℕ) → v.gives p (Some core) text → (r : RefusedWrite)
          → IsCut (dest.told name) (dest_now.told name) core → dest.writes ≤ dest_now.writes
          → (r ≡ refused.Failed → Rose dest.writes dest_now.writes)
          → Performed (of_script v) (Err (refusal_of_write r)) files files_now dest dest_now
      cut_performed core text gives r cut later failed = record {
        answer =
            λ (content, told).
            inr (inr (inl (late r, (core, (content, told, text, (p, holds content told, gives)), subst (λ (n : List ℕ). IsCut (dest.told n) (dest_now.told n) core) (sym named) cut))));
        read = record { later = reads; failed = λ is. absurd (write_not_read r is) };
        write = record { later = later; failed = λ is. failed (write_failed r is) };
        written = λ is. one_written;
        usage = λ is. absurd (never_usage r is);
        of_core = write_not_of_core r;
        unwritten = λ s ends nothing. absurd (was_written r s ends nothing);
        others = λ other not. others other (not_written other not);
      }
        where
          was_written : (x : RefusedWrite) (s : Status) → s ≡ status_of (refusal_of_write x)
              → (v.writes ≡ None) ⊎ IsBeforeWriting s → ⊥
          was_written x s ends (inl none) = let wrong : None ≡ Some name = sym none ∙ writes in cc
          was_written refused.Failed s ends (inr before) = subst (λ (y : Status). IsBeforeWriting y) ends before
          was_written refused.OutOfMemory s ends (inr before) = subst (λ (y : Status). IsBeforeWriting y) ends before

      -- its file is written, and the text is handed up
      pub written_performed : (core : List ℕ) (text : Vec ℕ) → v.gives p (Some core) text.items
          → dest_now.told name ≡ holding (dest.told name) core → dest.writes ≤ dest_now.writes
          → Performed (of_script v) (Ok text) files files_now dest dest_now
      written_performed core text gives held later = record {
        answer = λ (content, told). (Some core, (content, told, (p, holds content told, gives)), subst (λ (n : List ℕ). dest_now.told n ≡ holding (dest.told n) core) (sym named) held);
        read = record { later = reads; failed = λ is. absurd is };
        write = record { later = later; failed = λ is. absurd (cc) };
        written = λ is. one_written;
        usage = λ is. absurd (cc);
        of_core = tt;
        unwritten = λ s ends nothing. absurd (was_written s ends nothing);
        others = λ other not. others other (not_written other not);
      }
        where
          was_written : (s : Status) → IsPrinting s → (v.writes ≡ None) ⊎ IsBeforeWriting s → ⊥
          was_written s ends (inl none) = let wrong : None ≡ Some name = sym none ∙ writes in cc
          was_written s (inl e) (inr before) = subst (λ (y : Status). IsBeforeWriting y) e before
          was_written s (inr (inl e)) (inr before) = subst (λ (y : Status). IsBeforeWriting y) e before
          was_written s (inr (inr e)) (inr before) = subst (λ (y : Status). IsBeforeWriting y) e before

-- ---- what the clauses say

-- the text has a fault
abbrev pub HasFault : List ℕ → Type 0
HasFault bytes = (fault : ScriptFault) × Refused bytes fault

-- something is given of the program in the script
abbrev pub Gave : ScriptVerb → Option (List ℕ) → Type 0
Gave v content = (written : Option (List ℕ)) × (text : List ℕ) × IsGiven v content written text

-- one program is in a script
same_program_in : (content : Option (List ℕ)) (p q : Program) → IsProgramIn content p → IsProgramIn content q → p ≡ q
same_program_in None p q one other = absurd one
same_program_in (Some bytes) p q one other = one_program bytes p q one other

module _ (v : ScriptVerb) (told : List ℕ → Told) (content : Option (List ℕ)) (is : told v.script ≡ Some content) where
  answer_of : (a : Answer) → (of_script v).answers told a → IsAnswerOf v content a
  answer_of a (c, here, answer) =
      subst (λ (x : Option (List ℕ)). IsAnswerOf v x a) (one_content (told v.script) c content here is) answer

  pub refusals : (written : Option (List ℕ)) (r : Refusal) → (of_script v).answers told (Gives written (Err r)) → IsRefusalOf v content r
  refusals None r answer = answer_of (Gives None (Err r)) answer
  refusals (Some bytes) r answer = absurd (answer_of (Gives (Some bytes) (Err r)) answer)

  more : (a : Answer) → DoesMore a → IsAnswerOf v content a → Gave v content
  more (Gives None (Err r)) does answer = absurd does
  more (Gives (Some bytes) (Err r)) does answer = absurd answer
  more (Gives None (Ok text)) does answer = (None, text, answer)
  more (Gives (Some bytes) (Ok text)) does answer = (Some bytes, text, answer)

  pub did : DidMore (of_script v) told → Gave v content
  did (inl (a, does, answer)) = more a does (answer_of a answer)
  did (inr (bytes, (c, here, text, given))) =
      (Some bytes, text, subst (λ (x : Option (List ℕ)). IsGiven v x (Some bytes) text) (one_content (told v.script) c content here is) given)

  module _ (old new : Told) (counted : Type 0) (out after : Option (List ℕ)) where
    -- a status comes exactly where a fact holds of the script's content
    comes : (refused s : Status) (fact : Type 0) → (IsFaultStatus refused → ⊥) → (IsDoneStatus refused → ⊥)
        → ((r : Refusal) → IsRefusalOf v content r → status_of r ≡ refused → fact)
        → (fact → (r : Refusal) → IsRefusalOf v content r → status_of r ≡ refused) → (fact → Gave v content → ⊥)
        → IsLeft (of_script v) told s old new counted out after → ComesWhere refused s fact
    comes = comes_where (of_script v) told old new counted out after (IsRefusalOf v content) (Gave v content) refusals did

    -- there is no file exactly where the status says so
    pub no_file : (s : Status) → IsLeft (of_script v) told s old new counted out after → ComesWhere status.NoFile s (content ≡ None)
    no_file s = comes status.NoFile s (content ≡ None) (λ no. no) (λ no. no) (says content) (all content) (none content)
      where
        says : (c : Option (List ℕ)) (r : Refusal) → IsRefusalOf v c r → status_of r ≡ status.NoFile → c ≡ None
        says None r refuses of = refl
        says (Some bytes) r (inl (fault, why, same)) of =
            let wrong : status.Script ≡ status.NoFile = ap status_of (sym same) ∙ of in absurd (cc)
        says (Some bytes) r (inr (same, lacking)) of =
            let wrong : status.Usage ≡ status.NoFile = ap status_of (sym same) ∙ of in absurd (cc)

        all : (c : Option (List ℕ)) → c ≡ None → (r : Refusal) → IsRefusalOf v c r → status_of r ≡ status.NoFile
        all None missing r (inl same) = ap status_of same
        all None missing r (inr (same, (p, nothing, lacks))) = absurd nothing
        all (Some bytes) missing r refuses = absurd (cc)

        none : (c : Option (List ℕ)) → c ≡ None → Gave v c → ⊥
        none None missing (written, text, (p, nothing, gives)) = nothing
        none (Some bytes) missing gave = cc missing

    -- what success leaves
    pub success : (s : Status) → s ≡ status.Success → IsLeft (of_script v) told s old new counted out after
        → (written : Option (List ℕ)) × (text : List ℕ) × IsGiven v content written text × Holds written old new × (after ≡ put_on out text)
    success s done left =
        let (written, text, answer, held, put) =
        subst (λ (x : Status). IsLeft (of_script v) told x old new counted out after) done left in
        (written, text, answer_of (Gives written (Ok text)) answer, held, put)

    -- the program lacks what the words name exactly where the status says so, where such a program is given nothing
    pub lacking : ((p : Program) (written : Option (List ℕ)) (text : List ℕ) → v.gives p written text → v.lacks p → ⊥)
        → (s : Status) → IsLeft (of_script v) told s old new counted out after → ComesWhere status.Usage s (IsLacking v content)
    lacking apart s = comes status.Usage s (IsLacking v content) (λ no. no) (λ no. no) (says content) (all content) none
      where
        says : (c : Option (List ℕ)) (r : Refusal) → IsRefusalOf v c r → status_of r ≡ status.Usage → IsLacking v c
        says c r (inr (same, lacks)) of = lacks
        says None r (inl same) of =
            let wrong : status.NoFile ≡ status.Usage = ap status_of (sym same) ∙ of in absurd (cc)
        says (Some bytes) r (inl (fault, why, same)) of =
            let wrong : status.Script ≡ status.Usage = ap status_of (sym same) ∙ of in absurd (cc)

        all : (c : Option (List ℕ)) → IsLacking v c → (r : Refusal) → IsRefusalOf v c r → status_of r ≡ status.Usage
        all c lacks r (inr (same, also)) = ap status_of same
        all None (p, nothing, lacks) r (inl same) = absurd nothing
        all (Some bytes) (p, grammar, lacks) r (inl (fault, why, same)) = absurd (not_both bytes p fault grammar why)

        none : IsLacking v content → Gave v content → ⊥
        none (p, holds, lacks) (written, text, (q, also, gives)) =
            apart q written text gives
            (subst (λ (x : Program). v.lacks x) (same_program_in content p q holds also) lacks)

module _ (v : ScriptVerb) (told : List ℕ → Told) (bytes : List ℕ) (is : told v.script ≡ Some (Some bytes)) (old new : Told) (counted : Type 0) (out after : Option (List ℕ)) where
  -- the grammar refuses exactly where the status says so
  pub script_refused : (s : Status) → IsLeft (of_script v) told s old new counted out after → ComesWhere status.Script s (HasFault bytes)
  script_refused s =
      comes v told (Some bytes) is old new counted out after status.Script s (HasFault bytes) (λ no. no) (λ no. no) says all none
    where
      says : (r : Refusal) → IsRefusalOf v (Some bytes) r → status_of r ≡ status.Script → HasFault bytes
      says r (inl (fault, why, same)) of = (fault, why)
      says r (inr (same, lacking)) of =
          let wrong : status.Usage ≡ status.Script = ap status_of (sym same) ∙ of in absurd (cc)

      all : HasFault bytes → (r : Refusal) → IsRefusalOf v (Some bytes) r → status_of r ≡ status.Script
      all faulty r (inl (fault, why, same)) = ap status_of same
      all (fault, why) r (inr (same, (p, grammar, lacks))) = absurd (not_both bytes p fault grammar why)

      none : HasFault bytes → Gave v (Some bytes) → ⊥
      none (fault, why) (written, text, (p, grammar, gives)) = not_both bytes p fault grammar why
