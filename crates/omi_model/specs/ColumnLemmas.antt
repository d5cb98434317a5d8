-- The columns of a team, and its members.
use Rattle.std.proofs.Common.{◌≡◌, ℕ, zero, suc, ◌+◌, ◌-◌, ◌<◌, ◌≤◌, List, [], ◌∷◌, ◌++◌, length, take, drop, set, get_or, replicate, refl, sym, ap, ◌∙◌, arith, length-take-le, take-append-drop, length-set, Some, slice_get}
use Rattle.omi_model.specs.declared.limits.TheConstants.{MOST_MEMBERS}
use Rattle.std.proofs.lemmas.List.{drop-set-lt, drop-drop, drop-replicate}
use Rattle.omi_model.specs.declared.id.Tid.{Tid}
use Rattle.omi_model.specs.Columns.{members, tasks_of, threads_of, no_task, padded, IsColumn, AreColumns}

tasks_back : (n : ℕ) (xs : List Tid) (ys : List ℕ) → length xs ≡ length ys
    → tasks_of (take n (members xs ys)) ≡ take n xs
tasks_back zero xs ys e = refl
tasks_back (suc n) [] ys e = refl
tasks_back (suc n) (x ∷ xs) [] e = absurd (omega (arith, e))
tasks_back (suc n) (x ∷ xs) (y ∷ ys) e = ap (λ ws. x ∷ ws) (tasks_back n xs ys (omega (arith, e)))

threads_back : (n : ℕ) (xs : List Tid) (ys : List ℕ) → length xs ≡ length ys
    → threads_of (take n (members xs ys)) ≡ take n ys
threads_back zero xs ys e = refl
threads_back (suc n) [] [] e = refl
threads_back (suc n) [] (y ∷ ys) e = absurd (omega (arith, e))
threads_back (suc n) (x ∷ xs) [] e = absurd (omega (arith, e))
threads_back (suc n) (x ∷ xs) (y ∷ ys) e =
    ap (λ ws. y ∷ ws) (threads_back n xs ys (omega (arith, e)))

length-members : (xs : List Tid) (ys : List ℕ) → length xs ≡ length ys
    → length (members xs ys) ≡ length xs
length-members [] ys e = refl
length-members (x ∷ xs) [] e = absurd (omega (arith, e))
length-members (x ∷ xs) (y ∷ ys) e = ap suc (length-members xs ys (omega (arith, e)))

padded_back : {A : Type 0} (filler : A) (n : ℕ) (xs : List A) → n ≤ MOST_MEMBERS
    → IsColumn filler n xs → padded filler (take n xs) ≡ xs
padded_back filler n xs h c =
    let len = length-take-le n xs (omega (arith, c.whole)) in
    ap (λ k. take n xs ++ replicate (MOST_MEMBERS - k) filler) len
    ∙ (ap (λ ws. take n xs ++ ws) (sym c.rest) ∙ take-append-drop n xs)

module _ (len : ℕ) (xs : List Tid) (ys : List ℕ) (ok : AreColumns len xs ys) where
  same_length : length xs ≡ length ys
  same_length = ok.tasks.whole ∙ sym ok.threads.whole

  pub length-view : length (take len (members xs ys)) ≡ len
  length-view =
      length-take-le len (members xs ys)
      (omega (arith, length-members xs ys same_length, ok.limit, ok.tasks.whole))

  pub tasks_column : padded no_task (tasks_of (take len (members xs ys))) ≡ xs
  tasks_column = ap (padded no_task) (tasks_back len xs ys same_length)
      ∙ padded_back no_task len xs ok.limit ok.tasks

  pub threads_column : padded 0 (threads_of (take len (members xs ys))) ≡ ys
  threads_column = ap (padded 0) (threads_back len xs ys same_length)
      ∙ padded_back 0 len ys ok.limit ok.threads

-- the member at a place
pub member_at : (n i : ℕ) (d : Tid) (xs : List Tid) (ys : List ℕ) → i < n → i < length xs
    → length xs ≡ length ys
    → slice_get (take n (members xs ys)) i ≡ Some (get_or xs i d, get_or ys i 0)
member_at zero i d xs ys h b e = absurd (omega arith)
member_at (suc n) i d [] ys h b e = absurd (omega arith)
member_at (suc n) i d (x ∷ xs) [] h b e = absurd (omega (arith, e))
member_at (suc n) zero d (x ∷ xs) (y ∷ ys) h b e = refl
member_at (suc n) (suc i) d (x ∷ xs) (y ∷ ys) h b e =
    member_at n i d xs ys (omega arith) (omega arith) (omega (arith, e))

-- one more member behind the others
pub member_pushed : (n : ℕ) (xs : List Tid) (ys : List ℕ) (x : Tid) (y : ℕ) → n < length xs
    → length xs ≡ length ys
    → take (n + 1) (members (set xs n x) (set ys n y)) ≡ take n (members xs ys) ++ (x, y) ∷ []
member_pushed n xs ys x y b e = rw add_one_is (go n xs ys b e)
  where
    add_one_is : n + 1 ≡ suc n
    add_one_is = omega arith

    go : (n : ℕ) (xs : List Tid) (ys : List ℕ) → n < length xs → length xs ≡ length ys
        → take (suc n) (members (set xs n x) (set ys n y)) ≡ take n (members xs ys) ++ (x, y) ∷ []
    go n [] ys b e = absurd (omega arith)
    go n (x' ∷ xs) [] b e = absurd (omega (arith, e))
    go zero (x' ∷ xs) (y' ∷ ys) b e = refl
    go (suc n) (x' ∷ xs) (y' ∷ ys) b e =
        ap (λ ws. (x', y') ∷ ws) (go n xs ys (omega arith) (omega (arith, e)))

-- a column with one more place used
pub column_more : {A : Type 0} (filler : A) (n : ℕ) (xs : List A) (x : A) → n < MOST_MEMBERS
    → IsColumn filler n xs → IsColumn filler (n + 1) (set xs n x)
column_more filler n xs x h c = record {
  whole = length-set xs n x ∙ c.whole;
  rest = drop-set-lt (n + 1) xs n x (omega arith) ∙ sym (drop-drop 1 n xs) ∙ ap (drop 1) c.rest
      ∙ drop-replicate 1 (MOST_MEMBERS - n) filler ∙ ap (λ k. replicate k filler) (omega arith);
}
