-- Of each command: no fault of the outside is what its answer says, and what is left keeps its promise.
use Rattle.std.proofs.Common.{◌≡◌, inl, inr, ℕ, true, false, List, [], Option, Some, None, Ok, Err, refl, sym, ◌∙◌, ap}
use Rattle.omi_outside.specs.Outside.{Told}
use Rattle.omi_top.specs.Command.{Command, Stop, Make, Show, Run, Recode, Elf, Audit, Follow, Faulty}
use Rattle.omi_frame.specs.Verb.{Answer, Gives}
use Rattle.omi_top.specs.CommandVerbs.{IsAnswer, Promises, verb_of}
use Rattle.omi_top.specs.verbs.Audit.{IsAuditAnswer}
use Rattle.omi_top.specs.verbs.Copy.{IsCopyAnswer}
use Rattle.omi_top.specs.verbs.Follow.{IsFollowAnswer}
use Rattle.omi_top.specs.verbs.Make.{IsMakeAnswer}
use Rattle.omi_top.specs.verbs.Run.{IsRunAnswer}
use Rattle.omi_top.specs.verbs.Show.{IsShowAnswer}
use Rattle.omi_top.specs.verbs.Stop.{IsStopAnswer}
use Rattle.omi_top.specs.declared.plan.Plan.{Plan}
use Rattle.omi_layout.specs.declared.fault.LayoutFault.TheVariants.{Version, Overlap, OutOfRecord, BadArena}
use Rattle.omi_layout.specs.declared.reading.LayoutError.{LayoutError}
use Rattle.omi_layout.specs.declared.reading.LayoutError.TheVariants as layout
use Rattle.omi_rep.specs.declared.fault.LookFault.{LookFault}
use Rattle.omi_rep.specs.declared.fault.LookFault.TheVariants as look
use Rattle.omi_frame.proofs.Concluding.{is_fault}
use Rattle.omi_top.specs.Elf.{IsElfCopy}
use Rattle.omi_top.specs.Files.{IsFileRefusal}
use Rattle.omi_top.specs.Follow.{IsLaterRefusal}
use Rattle.omi_top.specs.Questions.{refusal_of_layout}
use Rattle.omi_top.specs.Recode.{IsRecodedCopy}
use Rattle.omi_top.proofs.Files.{told_holds}
use Rattle.omi_commands.specs.Inquiries.{refusal_of_look}
use Rattle.omi_frame.specs.declared.refusal.Refusal.{Refusal}
use Rattle.omi_frame.specs.declared.refusal.Refusal.TheVariants as refusal
use Rattle.omi_outside.specs.declared.status.Status.{Status}
use Rattle.omi_frame.specs.Concluded.{HasCounted, Leaves}
use Rattle.omi_frame.specs.Seen.{SeenFiles, SeenOutput}
use Rattle.omi_top.proofs.LeftByAudit.{kept as audit_kept}
use Rattle.omi_top.proofs.LeftByCopy.{elf_kept, recode_kept}
use Rattle.omi_top.proofs.LeftByFollow.{kept as follow_kept}
use Rattle.omi_top.proofs.LeftByMake.{kept as make_kept}
use Rattle.omi_top.proofs.LeftByRun.{kept as run_kept}
use Rattle.omi_top.proofs.LeftByShow.{kept as show_kept}
use Rattle.omi_top.proofs.LeftByStop.{kept as stop_kept}

-- a refusal that is one of the others is none of these
another : (r s : Refusal) → is_fault r ≡ true → r ≡ s → is_fault s ≡ false → ⊥
another r s fault same proper = let wrong : true ≡ false = sym fault ∙ ap is_fault same ∙ proper in cc

-- no fault is what an answer says
stop_proper : (plan : Plan) (content core : Option (List ℕ)) (r : Refusal) → is_fault r ≡ true
    → IsStopAnswer plan content (Gives core (Err r)) → ⊥
stop_proper plan None None r fault is = another r _ fault is refl
stop_proper plan (Some bytes) None r fault (f, why, is) = another r _ fault is refl
stop_proper plan None (Some core) r fault is = is
stop_proper plan (Some bytes) (Some core) r fault is = is

layout_proper : (e : LayoutError) → is_fault (refusal_of_layout e) ≡ false
layout_proper layout.NoSymbol = refl
layout_proper (layout.Unmapped addr) = refl
layout_proper (layout.Refused addr (Version v)) = refl
layout_proper (layout.Refused addr (Overlap f g)) = refl
layout_proper (layout.Refused addr (OutOfRecord f)) = refl
layout_proper (layout.Refused addr (BadArena p)) = refl

look_proper : (e : LookFault) → is_fault (refusal_of_look e) ≡ false
look_proper (look.Damaged addr field) = refl
look_proper (look.Cycle addr) = refl

-- nor what is told of a file
told_proper : (bytes : List ℕ) (r : Refusal) → is_fault r ≡ true → IsFileRefusal (Some bytes) r → ⊥
told_proper bytes r fault told =
    let proper : is_fault r ≡ false = told_holds (λ (x : Refusal). is_fault x ≡ false) (λ at why. refl) (λ at why. refl) bytes r told in
    let wrong : true ≡ false = sym fault ∙ proper in cc

show_proper : (content core : Option (List ℕ)) (r : Refusal) → is_fault r ≡ true
    → IsShowAnswer content (Gives core (Err r)) → ⊥
show_proper None None r fault is = another r _ fault is refl
show_proper (Some bytes) None r fault (inl told) = told_proper bytes r fault told
show_proper (Some bytes) None r fault (inr (core, spelled, inl (e, none, is))) =
    another r (refusal_of_layout e) fault is (layout_proper e)
show_proper (Some bytes) None r fault (inr (core, spelled, inr (e, looked, is))) =
    another r (refusal_of_look e) fault is (look_proper e)
show_proper None (Some core) r fault is = is
show_proper (Some bytes) (Some core) r fault is = is

make_proper : (n : ℕ) (script : Option (List ℕ)) (r : Refusal) → IsMakeAnswer n (Gives script (Err r)) → ⊥
make_proper n None r is = is
make_proper n (Some script) r is = is

run_proper : (plan : Plan) (text content core : Option (List ℕ)) (r : Refusal) → is_fault r ≡ true
    → IsRunAnswer plan text content (Gives core (Err r)) → ⊥
run_proper plan text content None r fault is = stop_proper plan text None r fault is
run_proper plan text content (Some core) r fault (lines, is, said) = show_proper content None r fault said

copy_proper : (copies : List ℕ → List ℕ → List ℕ → Type 0) (content copy : Option (List ℕ)) (r : Refusal) → is_fault r ≡ true
    → IsCopyAnswer copies content (Gives copy (Err r)) → ⊥
copy_proper copies None None r fault is = another r _ fault is refl
copy_proper copies (Some bytes) None r fault (at, why, refused, is) = another r _ fault is refl
copy_proper copies None (Some copy) r fault is = is
copy_proper copies (Some bytes) (Some copy) r fault is = is

audit_proper : (content core : Option (List ℕ)) (r : Refusal) → is_fault r ≡ true
    → IsAuditAnswer content (Gives core (Err r)) → ⊥
audit_proper None None r fault is = another r _ fault is refl
audit_proper (Some bytes) None r fault (inl told) = told_proper bytes r fault told
audit_proper (Some bytes) None r fault (inr (core, spelled, (e, none, is))) =
    another r (refusal_of_layout e) fault is (layout_proper e)
audit_proper None (Some core) r fault is = is
audit_proper (Some bytes) (Some core) r fault is = is

follow_proper : (content others core : Option (List ℕ)) (r : Refusal) → is_fault r ≡ true
    → IsFollowAnswer content others (Gives core (Err r)) → ⊥
follow_proper None others None r fault is = another r _ fault is refl
follow_proper (Some bytes) others None r fault (inl refused) = show_proper (Some bytes) None r fault refused
follow_proper (Some bytes) others None r fault (inr (v, (first, spelled, (looked, refused)))) =
    later_proper others refused
  where
    later_proper : (o : Option (List ℕ)) → IsLaterRefusal first o r → ⊥
    later_proper None is = another r _ fault is refl
    later_proper (Some bytes) (inl told) = told_proper bytes r fault told
    later_proper (Some bytes) (inr (later, spells, inl (e, none, is))) =
        another r (refusal_of_layout e) fault is (layout_proper e)
    later_proper (Some bytes) (inr (later, spells, inr (inl (unlike, is)))) = another r _ fault is refl
    later_proper (Some bytes) (inr (later, spells, inr (inr (e, followed, is)))) =
        another r (refusal_of_look e) fault is (look_proper e)
follow_proper None others (Some core) r fault is = is
follow_proper (Some bytes) None (Some core) r fault is = is
follow_proper (Some bytes) (Some other) (Some core) r fault is = is

-- what the answer to refused words says
abbrev said_of : Answer → Refusal
said_of (Gives core (Ok text)) = refusal.Usage
said_of (Gives core (Err r)) = r

pub proper : (command : Command) (told : List ℕ → Told) (core : Option (List ℕ)) (r : Refusal) → is_fault r ≡ true
    → IsAnswer command told (Gives core (Err r)) → ⊥
proper (Stop plan script written) told core r fault (content, is, answer) =
    stop_proper plan content core r fault answer
proper (Make n written) told core r fault is = make_proper n core r is
proper (Show written) told core r fault (content, is, answer) = show_proper content core r fault answer
proper (Run plan script written) told core r fault (text, here, content, is, answer) =
    run_proper plan text content core r fault answer
proper (Recode order read copy) told core r fault (content, is, answer) =
    copy_proper (IsRecodedCopy order) content core r fault answer
proper (Elf read copy) told core r fault (content, is, answer) = copy_proper IsElfCopy content core r fault answer
proper (Audit written) told core r fault (content, is, answer) = audit_proper content core r fault answer
proper (Follow first later) told core r fault (content, is, others, here, answer) =
    follow_proper content others core r fault answer
proper Faulty told core r fault is = another r refusal.Usage fault (ap said_of is) refl

-- ---- what is left

pub kept : (command : Command) (s : Status) (files dest dest_now : SeenFiles) (out out_now : SeenOutput)
    → Leaves (verb_of command) s files dest dest_now out out_now
    → Promises command s files.told dest.told dest_now.told out.told out_now.told
kept (Stop plan script core) s files dest dest_now out out_now =
    stop_kept plan script core files.told (dest.told core) (dest_now.told core) (HasCounted out out_now) out.told out_now.told s
kept (Make n script) s files dest dest_now out out_now =
    make_kept n script files.told (dest.told script) (dest_now.told script) (HasCounted out out_now) out.told out_now.told s
kept (Show core) s files dest dest_now out out_now =
    show_kept core files.told (dest.told []) (dest_now.told []) (HasCounted out out_now) out.told out_now.told s
kept (Run plan script core) s files dest dest_now out out_now =
    run_kept plan script core files.told (dest.told core) (dest_now.told core) (HasCounted out out_now) out.told out_now.told s
kept (Recode order core copy) s files dest dest_now out out_now =
    recode_kept core copy files.told (dest.told copy) (dest_now.told copy) (HasCounted out out_now) out.told out_now.told order s
kept (Elf core copy) s files dest dest_now out out_now =
    elf_kept core copy files.told (dest.told copy) (dest_now.told copy) (HasCounted out out_now) out.told out_now.told s
kept (Audit core) s files dest dest_now out out_now =
    audit_kept core files.told (dest.told []) (dest_now.told []) (HasCounted out out_now) out.told out_now.told s
kept (Follow core later) s files dest dest_now out out_now =
    follow_kept core later files.told (dest.told []) (dest_now.told []) (HasCounted out out_now) out.told out_now.told s
kept Faulty s files dest dest_now out out_now = λ left. tt
