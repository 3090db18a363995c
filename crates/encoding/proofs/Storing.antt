-- The bytes while a codelist is stored: the head, the operations stored as yet, and zeros.
use Prim.Native.Nat.{ℕ, suc, zero, ◌+◌, ◌-◌, ◌*◌, ◌≤◌, ◌<◌}
use mathlib.Core.List.{List, [], ◌∷◌, ◌++◌, append_assoc, append-nil}
use mathlib.Core.Path.{◌≡◌, refl, sym, ap, ◌∙◌}
use native.Mathlib.Numerals.{add-one}
use native.Mathlib.Omega.{arith}
use lib.ListN.{length, get_or, set, take, drop, replicate, length-append, length-replicate}
use lib.Seq.{take_at, drop_at, take-suc, length-take-le}
use borrow.Rule.Slice.PartMut.{put_mid}
use Rattle.codelist.specs.declared.Entry.{Entry}
use Rattle.codelist.specs.declared.Op.{Op}
use Rattle.codelist.specs.declared.Op.TheVariants.{Add, Mul, AddC, MulC, Pow, Inv}
use Rattle.codelist.specs.Codelist.{WellFormedOps}
use Rattle.encoding.specs.Bytes.{low_first}
use Rattle.encoding.specs.Encode.{op_bytes, ops_bytes, head_bytes}
use Rattle.encoding.specs.Views.{Small}
use Rattle.encoding.proofs.Operations.{small}

pub op-length : (o : Op) → length (op_bytes o) ≡ 8
unfolding low_first
op-length (Add i j) = refl
op-length (Mul i j) = refl
op-length (AddC i c) = refl
op-length (MulC i c) = refl
op-length (Pow i m) = refl
op-length (Inv i) = refl

pub ops-length : (xs : List Entry) → length (ops_bytes xs) ≡ 8 * length xs
unfolding ops_bytes
ops-length [] = refl
ops-length (x ∷ xs) = rw (length-append (op_bytes x.op) (ops_bytes xs)) (omega (arith, op-length x.op, ops-length xs))

ops_append : (xs ys : List Entry) → ops_bytes (xs ++ ys) ≡ ops_bytes xs ++ ops_bytes ys
unfolding ops_bytes
ops_append [] ys = refl
ops_append (x ∷ xs) ys = rw (ops_append xs ys) (sym (append_assoc (op_bytes x.op) (ops_bytes xs) (ops_bytes ys)))

ops-one : (x : Entry) → ops_bytes (x ∷ []) ≡ op_bytes x.op
unfolding ops_bytes
ops-one x = append-nil (op_bytes x.op)

abbrev zeros : ℕ → List ℕ
zeros n = replicate n 0

drop-zeros : (n m : ℕ) → drop n (zeros m) ≡ zeros (m - n)
drop-zeros zero m = let e : m ≡ m - 0 = omega arith in ap zeros e
drop-zeros (suc n) zero = let e : 0 ≡ 0 - suc n = omega arith in ap zeros e
drop-zeros (suc n) (suc m) = let e : m - n ≡ suc m - suc n = omega arith in drop-zeros n m ∙ ap zeros e

-- Bytes put where zeros begin
put-zeros : (p vs : List ℕ) (i j m : ℕ) → length p ≡ i → j ≡ length vs → put_mid i j (p ++ zeros m) vs ≡ p ++ (vs ++ zeros (m - length vs))
put-zeros p vs i j m e h =
    rw (take_at p (zeros m) i e, drop_at p (zeros m) i e, h, drop-zeros (length vs) m)

abbrev pub stored : ℕ → ℕ → ℕ → List Entry → ℕ → List ℕ
stored n count year xs k = head_bytes n count year ++ (ops_bytes (take k xs) ++ replicate (504 - 8 * k) 0)

pub stored-none : (n count year : ℕ) (xs : List Entry) → set (set (set (replicate 512 0) 0 n) 1 count) 2 year ≡ stored n count year xs 0
unfolding ops_bytes
stored-none n count year xs = refl

module _ (n count year : ℕ) (xs : List Entry) (k : ℕ) (h : k ≤ length xs) (r : k ≤ 63) where
  front_length : length (head_bytes n count year ++ ops_bytes (take k xs)) ≡ 8 + 8 * k
  front_length = omega (arith, ops-length (take k xs), length-take-le k xs h)

  pub stored-length : length (stored n count year xs k) ≡ 512
  stored-length =
      let z : length (zeros (504 - 8 * k)) ≡ 504 - 8 * k = length-replicate (504 - 8 * k) _ in
      omega (arith, length-append (ops_bytes (take k xs)) (zeros (504 - 8 * k)), front_length)

pub stored_more : (n count year : ℕ) (xs : List Entry) (k : ℕ) (d : Entry) → k < length xs → k < 63
    → put_mid (8 + 8 * k) (8 + 8 * k + 8 - (8 + 8 * k)) (stored n count year xs k) (op_bytes (get_or xs k d).op) ≡ stored n count year xs (k + 1)
stored_more n count year xs k d h r =
    let o = (get_or xs k d).op in
    let p = head_bytes n count year ++ ops_bytes (take k xs) in
    let m : 504 - 8 * k - length (op_bytes o) ≡ 504 - 8 * (k + 1) = omega (arith, op-length o) in
    let more : ops_bytes (take (k + 1) xs) ≡ ops_bytes (take k xs) ++ op_bytes o =
    ap (λ (j : ℕ). ops_bytes (take j xs)) (add-one k) ∙ ap ops_bytes (take-suc xs k d h) ∙ ops_append (take k xs) (get_or xs k d ∷ [])
    ∙ ap (λ (t : List ℕ). ops_bytes (take k xs) ++ t) (ops-one (get_or xs k d)) in
    let j : 8 + 8 * k + 8 - (8 + 8 * k) ≡ length (op_bytes o) = omega (arith, op-length o) in
    put-zeros p (op_bytes o) (8 + 8 * k) _ (504 - 8 * k) (front_length n count year xs k (omega arith) (omega arith)) j
    ∙ ap (λ (j : ℕ). p ++ (op_bytes o ++ zeros j)) m
    ∙ ap (λ (t : List ℕ). head_bytes n count year ++ t)
    (sym (rw more (append_assoc (ops_bytes (take k xs)) (op_bytes o) (zeros (504 - 8 * (k + 1))))))

-- The constants of well formed operations are within the limit
pub small_at : (e : ℕ) (xs : List Entry) (k : ℕ) (d : Entry) → WellFormedOps e xs → k < length xs → Small (get_or xs k d).op
small_at e [] k d w h = absurd (omega arith)
small_at e (x ∷ xs) zero d w h = small e x.op w.0
small_at e (x ∷ xs) (suc k) d w h = small_at (e + 1) xs k d w.1 (omega arith)
