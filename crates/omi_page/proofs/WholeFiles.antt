-- A whole core file, read field by field.
use Rattle.std.proofs.Common.{◌≡◌, ℕ, ◌<◌, ◌≤◌, true, false, eqb, List, length, drop, Result, Ok, Err, refl, sym, ap, subst, ◌∙◌, arith}
use Rattle.std.proofs.lemmas.Bool.{eq-eqb, ne_eqb}
use Rattle.std.proofs.lemmas.List.{length-drop}
use Rattle.omi_corefile.specs.declared.segment.Segment.{Segment}
use Rattle.omi_corefile.specs.declared.fault.CoreFault.TheVariants.{Trailing}
use Rattle.omi_corefile.specs.Refusals.{ReadRefusal, ◌>>=◌, place_in_file, contexts_at, segments_at, Header, header_at, Parts, parts_at, reading}
use Rattle.omi_corefile.proofs.Numbers.{bind_again}
use Rattle.omi_corefile.proofs.Readings.{bind_failed}
use Rattle.omi_corefile.proofs.FileLaws.{after_header, after_contexts, after_segments, ended}
use Rattle.omi_page.specs.declared.fault.PageError.{PageError}
use Rattle.omi_page.specs.declared.fault.PageError.TheVariants.{Fault, Elf, NoFile, Failed, OutOfMemory}
use Rattle.omi_page.specs.Outcomes.{Fails}

-- what failed fails what follows it
bind_fails : {A B : Type 0} (error : PageError) (read : Result A ReadRefusal) (f : A → Result B ReadRefusal)
    → Fails error read → Fails error (read >>= f)
bind_fails (Fault at why) read f e = bind_failed read f (at, why) e
bind_fails (Elf at why) read f e = e
bind_fails NoFile read f e = e
bind_fails Failed read f e = tt
bind_fails OutOfMemory read f e = tt

file_as : (bytes : List ℕ) (len : ℕ) → length bytes ≡ len → (parts_at len bytes >>= ended len) ≡ reading bytes
unfolding reading
file_as bytes len is = ap (λ k. parts_at k bytes >>= ended k) (sym is)

-- where the header fails, the file does
pub header_fails : (error : PageError) (bytes : List ℕ) (len : ℕ) → length bytes ≡ len
    → Fails error (header_at len bytes) → Fails error (reading bytes)
unfolding parts_at
header_fails error bytes len is e =
    subst (Fails error) (file_as bytes len is)
    (bind_fails error (parts_at len bytes) (ended len) (bind_fails error (header_at len bytes) (after_header len) e))

-- what is read up to the contexts, and up to the segments
pub record UpToHeader (bytes : List ℕ) (len : ℕ) (counts : Header) (rest : List ℕ) : Type 0 where
  pub length_is : length bytes ≡ len
  pub header_is : header_at len bytes ≡ Ok (counts, rest)

after_it : (bytes : List ℕ) (len : ℕ) (counts : Header) (rest : List ℕ) → UpToHeader bytes len counts rest
    → parts_at len bytes ≡ after_header len (counts, rest)
unfolding parts_at
after_it bytes len counts rest read =
    bind_again (header_at len bytes) (after_header len) (counts, rest) read.header_is

pub contexts_fail : (error : PageError) (bytes : List ℕ) (len : ℕ) (counts : Header) (rest : List ℕ)
    → UpToHeader bytes len counts rest
    → Fails error (contexts_at len counts.contexts rest) → Fails error (reading bytes)
contexts_fail error bytes len counts rest read e =
    subst (Fails error) (file_as bytes len read.length_is) (bind_fails error (parts_at len bytes) (ended len)
    (subst (Fails error) (sym (after_it bytes len counts rest read)) (bind_fails error (contexts_at len counts.contexts rest) (after_contexts len counts) e)))

pub record UpToContexts (bytes : List ℕ) (len : ℕ) (counts : Header) (ids rest : List ℕ) : Type 0 where
  pub length_is : length bytes ≡ len
  pub middle : List ℕ
  pub header_is : header_at len bytes ≡ Ok (counts, middle)
  pub contexts_are : contexts_at len counts.contexts middle ≡ Ok (ids, rest)

after_ids : (bytes : List ℕ) (len : ℕ) (counts : Header) (ids rest : List ℕ)
    → UpToContexts bytes len counts ids rest → parts_at len bytes ≡ after_contexts len counts (ids, rest)
after_ids bytes len counts ids rest read =
    after_it bytes len counts read.middle (record { length_is = read.length_is; header_is = read.header_is })
    ∙ bind_again (contexts_at len counts.contexts read.middle) (after_contexts len counts)
    (ids, rest) read.contexts_are

pub segments_fail : (error : PageError) (bytes : List ℕ) (len : ℕ) (counts : Header) (ids rest : List ℕ)
    → UpToContexts bytes len counts ids rest
    → Fails error (segments_at len counts.order counts.segments rest) → Fails error (reading bytes)
segments_fail error bytes len counts ids rest read e =
    subst (Fails error) (file_as bytes len read.length_is) (bind_fails error (parts_at len bytes) (ended len)
    (subst (Fails error) (sym (after_ids bytes len counts ids rest read)) (bind_fails error (segments_at len counts.order counts.segments rest) (after_segments counts ids) e)))

-- the parts of a file
abbrev pub parts_with : Header → List ℕ → List Segment → Parts
parts_with counts ids segments = record { order = counts.order; contexts = ids; segments = segments }

to_end : (bytes : List ℕ) (len : ℕ) (counts : Header) (ids rest left : List ℕ) (segments : List Segment)
    → UpToContexts bytes len counts ids rest
    → segments_at len counts.order counts.segments rest ≡ Ok (segments, left) → reading bytes ≡ ended len (parts_with counts ids segments, left)
to_end bytes len counts ids rest left segments read e =
    sym (file_as bytes len read.length_is)
    ∙ bind_again (parts_at len bytes) (ended len) (parts_with counts ids segments, left)
    (after_ids bytes len counts ids rest read ∙ bind_again (segments_at len counts.order counts.segments rest) (after_segments counts ids) (segments, left) e)

-- nothing follows the last segment
pub file_whole : (bytes : List ℕ) (len : ℕ) (counts : Header) (ids rest : List ℕ) (segments : List Segment) (end : ℕ)
    → UpToContexts bytes len counts ids rest
    → segments_at len counts.order counts.segments rest ≡ Ok (segments, drop end bytes) → len ≤ end → reading bytes ≡ Ok (parts_with counts ids segments)
file_whole bytes len counts ids rest segments end read e all =
    let none : eqb (length (drop end bytes)) 0 ≡ true =
    eq-eqb (length (drop end bytes)) 0 (omega (arith, length-drop end bytes, read.length_is)) in
    to_end bytes len counts ids rest (drop end bytes) segments read e ∙ rw none refl

-- bytes follow the last segment
pub file_trailing : (bytes : List ℕ) (len : ℕ) (counts : Header) (ids rest : List ℕ) (segments : List Segment) (end : ℕ)
    → UpToContexts bytes len counts ids rest
    → segments_at len counts.order counts.segments rest ≡ Ok (segments, drop end bytes) → end < len → reading bytes ≡ Err (end, Trailing end)
file_trailing bytes len counts ids rest segments end read e more =
    let some : eqb (length (drop end bytes)) 0 ≡ false =
    ne_eqb (length (drop end bytes)) 0 (λ none. omega (arith, none, length-drop end bytes, read.length_is)) in
    let here : place_in_file len (drop end bytes) ≡ end =
    omega (arith, length-drop end bytes, read.length_is) in
    to_end bytes len counts ids rest (drop end bytes) segments read e
    ∙ rw some (ap (λ (n : ℕ). Err (n, Trailing n)) here)
