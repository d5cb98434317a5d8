-- One word of a memory replaced: what is read there, and that every other word stays.
use Rattle.std.proofs.Common.{◌≡◌, ◌==◌, ◌≢◌, ℕ, Bool, true, false, cond, refl, sym, ap, ◌∙◌, subst, eqb-true, eq-eqb, ne_eqb}
use mathlib.Core.Path.{fun_ext}
use Rattle.omi_layout.specs.Memory.{Memory, MadeRecords, Rec, replace_at, with_word_in, with_record, with_word}

pub put_same : {A : Type 0} (m : ℕ → A) (i : ℕ) (x : A) → replace_at m i x i ≡ x
put_same m i x = ap (λ b. cond b x (m i)) (eq-eqb i i refl)

pub put_other : {A : Type 0} (m : ℕ → A) (i j : ℕ) (x : A) → j ≢ i → replace_at m i x j ≡ m j
put_other m i j x ne = ap (λ b. cond b x (m j)) (ne_eqb j i ne)

-- nothing is replaced
pub put_back : {A : Type 0} (m : ℕ → A) (i : ℕ) → replace_at m i (m i) ≡ m
put_back {A} m i = fun_ext (λ j. go j (j == i) refl)
  where
    go : (j : ℕ) (b : Bool) → j == i ≡ b → cond b (m i) (m j) ≡ m j
    go j true e = ap m (sym (eqb-true j i e))
    go j false e = refl

-- a fact of each place, where one place is replaced
pub each_put : {A : Type 0} (P : ℕ → A → Type 0) (m : ℕ → A) (i : ℕ) (x : A) → P i x → (j : ℕ)
    → (j ≢ i → P j (m j)) → P j (replace_at m i x j)
each_put P m i x here j other = go (j == i) refl
  where
    clash : j == i ≡ true → j == i ≡ false → ⊥
    clash p q = cc

    go : (b : Bool) → j == i ≡ b → P j (cond b x (m j))
    go true e = subst (λ k. P k x) (sym (eqb-true j i e)) here
    go false e = other (λ same. clash (eq-eqb j i same) e)

-- a memory in which one word was written, and every other word stayed
written_at : (m n : Memory) (c q s f k v : ℕ) → n c q s f k ≡ v
    → ((d p t g h : ℕ) → (d ≡ c → p ≡ q → t ≡ s → g ≡ f → h ≡ k → ⊥) → n d p t g h ≡ m d p t g h)
    → (d p t g h : ℕ) → n d p t g h ≡ with_word m c q s f k v d p t g h
written_at m n c q s f k v same other d p t g h =
    each_put (λ d' (x : MadeRecords). n d' p t g h ≡ x p t g h) m c
    (with_record (m c) q s (with_word_in (m c q s) f k v))
    (each_put (λ p' (x : ℕ → Rec). n c p' t g h ≡ x t g h) (m c) q (replace_at (m c q) s (with_word_in (m c q s) f k v))
    (each_put (λ t' (x : Rec). n c q t' g h ≡ x g h) (m c q) s (with_word_in (m c q s) f k v)
    (each_put (λ g' (x : ℕ → ℕ). n c q s g' h ≡ x h) (m c q s) f (replace_at (m c q s f) k v)
    (each_put (λ h' (x : ℕ). n c q s f h' ≡ x) (m c q s f) k v same h (λ eh. other c q s f h (λ _ _ _ _ e. eh e)))
    g (λ eg. other c q s g h (λ _ _ _ e _. eg e)))
    t (λ et. other c q t g h (λ _ _ e _ _. et e)))
    p (λ ep. other c p t g h (λ _ e _ _ _. ep e)))
    d (λ ed. other d p t g h (λ e _ _ _ _. ed e))

pub written : (m n : Memory) (c q s f k v : ℕ) → n c q s f k ≡ v
    → ((d p t g h : ℕ) → (d ≡ c → p ≡ q → t ≡ s → g ≡ f → h ≡ k → ⊥) → n d p t g h ≡ m d p t g h)
    → n ≡ with_word m c q s f k v
written m n c q s f k v same other =
    fun_ext
    (λ d. fun_ext (λ p. fun_ext (λ t. fun_ext (λ g. fun_ext (λ h. written_at m n c q s f k v same other d p t g h)))))

-- a word that is written as it is leaves the memory
pub word_back : (m : Memory) (c q s f k : ℕ) → with_word m c q s f k (m c q s f k) ≡ m
word_back m c q s f k =
    let field : with_word_in (m c q s) f k (m c q s f k) ≡ m c q s =
    ap (λ (x : ℕ → ℕ). replace_at (m c q s) f x) (put_back (m c q s f) k) ∙ put_back (m c q s) f in
    let made : with_record (m c) q s (with_word_in (m c q s) f k (m c q s f k)) ≡ m c =
    ap (λ (x : Rec). with_record (m c) q s x) field
    ∙ (ap (λ (x : ℕ → Rec). replace_at (m c) q x) (put_back (m c q) s) ∙ put_back (m c) q) in
    ap (λ (x : MadeRecords). replace_at m c x) made ∙ put_back m c

-- what is read where a word was written
pub word_read : (m : Memory) (c q s f k v : ℕ) → with_word m c q s f k v c q s f k ≡ v
word_read m c q s f k v =
    ap (λ (x : MadeRecords). x q s f k) (put_same m c (with_record (m c) q s (with_word_in (m c q s) f k v)))
    ∙ ap (λ (x : ℕ → Rec). x s f k) (put_same (m c) q (replace_at (m c q) s (with_word_in (m c q s) f k v)))
    ∙ ap (λ (x : Rec). x f k) (put_same (m c q) s (with_word_in (m c q s) f k v))
    ∙ ap (λ (x : ℕ → ℕ). x k) (put_same (m c q s) f (replace_at (m c q s f) k v))
    ∙ put_same (m c q s f) k v

-- and what is read elsewhere
pub word_stays : (m : Memory) (c q s f k v d p t g h : ℕ) → (d ≡ c → p ≡ q → t ≡ s → g ≡ f → h ≡ k → ⊥)
    → with_word m c q s f k v d p t g h ≡ m d p t g h
word_stays m c q s f k v d p t g h ne =
    each_put (λ d' (x : MadeRecords). d' ≡ d → x p t g h ≡ m d' p t g h) m c
    (with_record (m c) q s (with_word_in (m c q s) f k v))
    (λ ed. each_put (λ p' (x : ℕ → Rec). p' ≡ p → x t g h ≡ m c p' t g h) (m c) q (replace_at (m c q) s (with_word_in (m c q s) f k v))
    (λ ep. each_put (λ t' (x : Rec). t' ≡ t → x g h ≡ m c q t' g h) (m c q) s (with_word_in (m c q s) f k v)
    (λ et. each_put (λ g' (x : ℕ → ℕ). g' ≡ g → x h ≡ m c q s g' h) (m c q s) f (replace_at (m c q s f) k v)
    (λ eg. each_put (λ h' (x : ℕ). h' ≡ h → x ≡ m c q s f h') (m c q s f) k v (λ eh. absurd (ne (sym ed) (sym ep) (sym et) (sym eg) (sym eh))) h (λ _ _. refl) refl)
    g (λ _ _. refl) refl)
    t (λ _ _. refl) refl)
    p (λ _ _. refl) refl)
    d (λ _ _. refl) refl

-- the record in which a word was written
pub record_read : (m : Memory) (c q s f k v : ℕ)
    → with_word m c q s f k v c q s ≡ with_word_in (m c q s) f k v
record_read m c q s f k v =
    ap (λ (x : MadeRecords). x q s) (put_same m c (with_record (m c) q s (with_word_in (m c q s) f k v)))
    ∙ ap (λ (x : ℕ → Rec). x s) (put_same (m c) q (replace_at (m c q) s (with_word_in (m c q s) f k v)))
    ∙ put_same (m c q) s (with_word_in (m c q s) f k v)

-- and every other record
pub record_stays : (m : Memory) (c q s f k v d p t : ℕ) → (d ≡ c → p ≡ q → t ≡ s → ⊥)
    → with_word m c q s f k v d p t ≡ m d p t
record_stays m c q s f k v d p t ne =
    each_put (λ d' (x : MadeRecords). d' ≡ d → x p t ≡ m d' p t) m c
    (with_record (m c) q s (with_word_in (m c q s) f k v))
    (λ ed. each_put (λ p' (x : ℕ → Rec). p' ≡ p → x t ≡ m c p' t) (m c) q (replace_at (m c q) s (with_word_in (m c q s) f k v))
    (λ ep. each_put (λ t' (x : Rec). t' ≡ t → x ≡ m c q t') (m c q) s (with_word_in (m c q s) f k v)
    (λ et. absurd (ne (sym ed) (sym ep) (sym et)))
    t (λ _ _. refl) refl)
    p (λ _ _. refl) refl)
    d (λ _ _. refl) refl
