-- What stands at a place of a file, and the numbers that are read there.
use Rattle.std.proofs.Common.{◌≡◌, ℕ, ◌+◌, ◌*◌, ◌^◌, ◌<◌, ◌≤◌, Bool, true, false, cond, eqb, ltb, List, []}
use Rattle.std.proofs.Common.{◌∷◌, ◌++◌, length, take, drop, map, refl, sym, ap, subst, ◌∙◌, append_assoc, arith, length-append}
use Rattle.std.specs.List.{range_with_len}
use Rattle.std.specs.Int.{Width, w16, w32, w64, byte_len, from_le_bytes, from_be_bytes, to_le_bytes, to_be_bytes}
use Rattle.std.proofs.lemmas.Bool.{and_parts, ltb-true}
use Rattle.std.proofs.lemmas.List.{append-nil, take_at, drop_at}
use Rattle.std.proofs.lemmas.Nat.{from_le_bytes-to_le_bytes_2, from_le_bytes-to_le_bytes_4, from_le_bytes-to_le_bytes_8}
use Rattle.std.proofs.lemmas.Nat.{from_be_bytes-to_be_bytes_2, from_be_bytes-to_be_bytes_4, from_be_bytes-to_be_bytes_8}
use Rattle.omi_corefile.specs.ByteOrder.{word_bytes}
use Rattle.omi_corefile.specs.Limits.{are_words}
use Rattle.omi_corefile.specs.Spelling.{words_in}
use Rattle.omi_elf.specs.Header.{field, numbers_from}
use Rattle.omi_elf.specs.Spelling.{bytes_of}

-- ---- places

-- the text stands at the place
pub record Has (bytes : List ℕ) (place : ℕ) (text : List ℕ) : Type 0 where
  pub front : List ℕ
  pub rest : List ℕ
  pub parts : bytes ≡ front ++ (text ++ rest)
  pub where_ : length front ≡ place

pub has_all : (bytes : List ℕ) → Has bytes 0 bytes
has_all bytes = record { front = []; rest = []; parts = sym (append-nil bytes); where_ = refl }

-- of two texts the first stands at the place, and the second behind it
pub has_first : (bytes : List ℕ) (place : ℕ) (a b : List ℕ) → Has bytes place (a ++ b) → Has bytes place a
has_first bytes place a b h = record {
  front = h.front;
  rest = b ++ h.rest;
  parts = h.parts ∙ ap (λ (t : List ℕ). h.front ++ t) (append_assoc a b h.rest);
  where_ = h.where_;
}

pub has_next : (bytes : List ℕ) (place next : ℕ) (a b : List ℕ) → place + length a ≡ next
    → Has bytes place (a ++ b) → Has bytes next b
has_next bytes place next a b e h = record {
  front = h.front ++ a;
  rest = h.rest;
  parts = h.parts ∙ ap (λ (t : List ℕ). h.front ++ t) (append_assoc a b h.rest) ∙ sym (append_assoc h.front a (b ++ h.rest));
  where_ = omega (arith, length-append h.front a, h.where_, e);
}

-- the file has all of the text
pub has_room : (bytes : List ℕ) (place : ℕ) (text : List ℕ) → Has bytes place text → place + length text ≤ length bytes
has_room bytes place text h =
    omega (arith, ap length h.parts, length-append h.front (text ++ h.rest), length-append text h.rest, h.where_)

pub has_dropped : (bytes : List ℕ) (place : ℕ) (text : List ℕ) (h : Has bytes place text) → drop place bytes ≡ text ++ h.rest
has_dropped bytes place text h = ap (drop place) h.parts ∙ drop_at h.front (text ++ h.rest) place h.where_

pub has_taken : (bytes : List ℕ) (place : ℕ) (text : List ℕ) (n : ℕ) → length text ≡ n → Has bytes place text
    → take n (drop place bytes) ≡ text
has_taken bytes place text n e h = ap (take n) (has_dropped bytes place text h) ∙ take_at text h.rest n e

pub has_same : (bytes : List ℕ) (place : ℕ) (a b : List ℕ) → a ≡ b → Has bytes place a → Has bytes place b
has_same bytes place a b e h = subst (Has bytes place) e h

-- fields one behind the other, seen from the first one on
pub from_first_5 : (a b c d e : List ℕ) → a ++ b ++ c ++ d ++ e ≡ a ++ (b ++ (c ++ (d ++ e)))
from_first_5 a b c d e = simp append_assoc

pub from_first_6 : (a b c d e f : List ℕ) → a ++ b ++ c ++ d ++ e ++ f ≡ a ++ (b ++ (c ++ (d ++ (e ++ f))))
from_first_6 a b c d e f = simp append_assoc

pub from_first_8 : (a b c d e f g h : List ℕ) → a ++ b ++ c ++ d ++ e ++ f ++ g ++ h ≡ a ++ (b ++ (c ++ (d ++ (e ++ (f ++ (g ++ h))))))
from_first_8 a b c d e f g h = simp append_assoc

-- ---- numbers

-- the bytes of a number below `limit` tell it again, in each order
pub record Told (w : Width) (limit : ℕ) : Type 0 where
  pub low_length : (n : ℕ) → length (to_le_bytes w n) ≡ byte_len w
  pub high_length : (n : ℕ) → length (to_be_bytes w n) ≡ byte_len w
  pub low : (n : ℕ) → n < limit → from_le_bytes w (to_le_bytes w n) ≡ n
  pub high : (n : ℕ) → n < limit → from_be_bytes w (to_be_bytes w n) ≡ n

pub told16 : Told w16 (2 ^ 16)
told16 = record { low_length = λ n. refl; high_length = λ n. refl; low = from_le_bytes-to_le_bytes_2; high = from_be_bytes-to_be_bytes_2 }

pub told32 : Told w32 (2 ^ 32)
told32 = record { low_length = λ n. refl; high_length = λ n. refl; low = from_le_bytes-to_le_bytes_4; high = from_be_bytes-to_be_bytes_4 }

pub told64 : Told w64 (2 ^ 64)
told64 = record { low_length = λ n. refl; high_length = λ n. refl; low = from_le_bytes-to_le_bytes_8; high = from_be_bytes-to_be_bytes_8 }

length_by : (w : Width) (limit : ℕ) → Told w limit → (b : Bool) (n : ℕ)
    → length (cond b (to_le_bytes w n) (to_be_bytes w n)) ≡ byte_len w
length_by w limit told true n = told.low_length n
length_by w limit told false n = told.high_length n

pub length-bytes_of : (w : Width) (limit : ℕ) → Told w limit → (order n : ℕ) → length (bytes_of w order n) ≡ byte_len w
length-bytes_of w limit told order n = length_by w limit told (eqb order 0) n

read_by : (w : Width) (limit : ℕ) → Told w limit → (b : Bool) (n : ℕ) → n < limit
    → cond b (from_le_bytes w (cond b (to_le_bytes w n) (to_be_bytes w n))) (from_be_bytes w (cond b (to_le_bytes w n) (to_be_bytes w n))) ≡ n
read_by w limit told true n below = told.low n below
read_by w limit told false n below = told.high n below

-- the number whose bytes stand at a place is read there
pub field_read : (w : Width) (limit : ℕ) → Told w limit → (order : ℕ) (bytes : List ℕ) (place n : ℕ) → n < limit
    → Has bytes place (bytes_of w order n) → field w order bytes place ≡ n
unfolding field
field_read w limit told order bytes place n below h =
    ap (λ (t : List ℕ). cond (eqb order 0) (from_le_bytes w t) (from_be_bytes w t))
    (has_taken bytes place (bytes_of w order n) (byte_len w) (length-bytes_of w limit told order n) h)
    ∙ read_by w limit told (eqb order 0) n below

-- words that stand one behind another are read there
words_read : (order : ℕ) (bytes : List ℕ) (base k : ℕ) (ws : List ℕ) (place : ℕ) → place ≡ base + 8 * k
    → are_words ws ≡ true → Has bytes place (words_in order ws)
    → map (λ (i : ℕ). field w64 order bytes (base + 8 * i)) (range_with_len k (length ws)) ≡ ws
words_read order bytes base k [] place e fit h = refl
words_read order bytes base k (w ∷ ws) place e fit h =
    let parts = and_parts (ltb w (2 ^ 64)) (are_words ws) fit in
    let len = length-bytes_of w64 (2 ^ 64) told64 order w in
    let first : field w64 order bytes (base + 8 * k) ≡ w =
    ap (field w64 order bytes) (sym e)
    ∙ field_read w64 (2 ^ 64) told64 order bytes place w (ltb-true w (2 ^ 64) parts.0) (has_first bytes place (word_bytes order w) (words_in order ws) h) in
    let rest = words_read order bytes base (k + 1) ws (place + 8) (omega (arith, e)) parts.1
    (has_next bytes place (place + 8) (word_bytes order w) (words_in order ws) (omega (arith, len)) h) in
    ap (λ (x : ℕ). x ∷ map (λ (i : ℕ). field w64 order bytes (base + 8 * i)) (range_with_len (k + 1) (length ws))) first
    ∙ ap (λ (xs : List ℕ). w ∷ xs) rest

pub numbers_read : (order : ℕ) (bytes : List ℕ) (place : ℕ) (ws : List ℕ) → are_words ws ≡ true
    → Has bytes place (words_in order ws) → numbers_from order bytes place (length ws) ≡ ws
unfolding numbers_from
numbers_read order bytes place ws fit h = words_read order bytes place 0 ws place (omega arith) fit h
