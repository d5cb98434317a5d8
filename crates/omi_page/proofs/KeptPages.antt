-- What is kept after a look-up and after a page more.
use Rattle.std.proofs.Common.{◌≡◌, ℕ, true, List, Contains, Result, Ok, Err, OnOk, OnErr, Some, sym, subst, ◌⊎◌, inl, inr, nat_eq}
use Rattle.std.specs.Map.{lookup}
use Rattle.std.proofs.lemmas.Bool.{eqb-true}
use Rattle.lru.specs.LruCache.{LruCache, lru_cache, put_entries}
use Rattle.lru.proofs.CallerLemmas.{Contains-lookup, Contains-put_entries, IsPut}

-- a value that was looked up is kept under that number
pub looked_up : {V : Type 0} (entries : List (ℕ × V)) (page : ℕ) (v : V)
    → lookup (nat_eq page) entries ≡ Some v → Contains entries (page, v)
looked_up entries page v e =
    let found = Contains-lookup (nat_eq page) entries v e in
    subst (λ k. Contains entries (k, v)) (sym (eqb-true page found.0 found.2)) found.1

-- the key under which the page was put
under_key : {V : Type 0} (c : LruCache ℕ V) (page other : ℕ) (v : V)
    → ((other ≡ page) ⊎ ((w : V) × Contains c.entries (other, w) × (nat_eq page other ≡ true))) → other ≡ page
under_key c page other v (inl same) = same
under_key c page other v (inr equal) = sym (eqb-true page other equal.2)

put_one : {V : Type 0} (c : LruCache ℕ V) (page other : ℕ) (v items : V)
    → (Contains c.entries (other, items) ⊎ IsPut nat_eq c page v (other, items))
    → Contains c.entries (other, items) ⊎ ((other ≡ page) × (items ≡ v))
put_one c page other v items (inl was) = inl was
put_one c page other v items (inr put) = inr (under_key c page other v put.1, put.0)

-- each entry after a page was put was there, or is that page
pub kept_more : {V R E : Type 0} (r : Result R E) (old new : LruCache ℕ V) (page other : ℕ) (v items : V)
    → OnOk r (new ≡ lru_cache (put_entries nat_eq old page v) old.cap) → OnErr r (new ≡ old)
    → Contains new.entries (other, items) → Contains old.entries (other, items) ⊎ ((other ≡ page) × (items ≡ v))
kept_more (Ok x) old new page other v items put same c =
    put_one old page other v items
    (Contains-put_entries nat_eq old page v (other, items) (subst (λ k. Contains k.entries (other, items)) put c))
kept_more (Err x) old new page other v items put same c =
    inl (subst (λ k. Contains k.entries (other, items)) same c)
