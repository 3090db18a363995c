-- Well formed operations: the test of one, and of several in a row, is true exactly where they are well formed.
use Prim.Native.Nat.{ℕ, suc, zero, ◌+◌, ◌≤◌, ◌<◌}
use mathlib.Core.Bool.{Bool, true, ◌&&◌}
use mathlib.Core.List.{List, [], ◌∷◌, map}
use mathlib.Core.Path.{◌≡◌, refl, sym, subst, ◌∙◌}
use native.Mathlib.Nat.{add-zero}
use native.Mathlib.Omega.{arith}
use lib.Dec.{leb}
use lib.IntN.{ℤ, pos, negsuc, nat_abs}
use lib.ListN.{length, get_or, length-map}
use borrow.Author.Tests.{le-leb, leb-true}
use Rattle.codelist.specs.declared.Entry.{Entry}
use Rattle.codelist.specs.declared.Op.{Op}
use Rattle.codelist.specs.declared.Op.TheVariants.{Add, Mul, AddC, MulC, Pow, Inv}
use Rattle.exact.specs.Units.{limit}
use Rattle.codelist.specs.Codelist.{Earlier, WellFormedOp, WellFormedOps, is_earlier, is_exponent, is_constant, is_multiplier}
use Rattle.codelist.specs.Codelist.{well_formed_op, well_formed_ops}
use Rattle.codelist.proofs.Laws.{both_true, both-made}

-- An array of structs in a struct: what is known of it is the length of a map over its list
pub length-mapped : {A B : Type 0} (f : A → B) (xs : List A) (n : ℕ) → length (map f xs) ≡ n → length xs ≡ n
length-mapped f xs n e = sym (length-map xs f) ∙ e

-- One operation
earlier-sound : (e i : ℕ) → is_earlier e i ≡ true → Earlier e i
earlier-sound e i p = let b = both_true (leb 1 i) (leb i e) p in (leb-true 1 i b.0, leb-true i e b.1)

earlier-complete : (e i : ℕ) → Earlier e i → is_earlier e i ≡ true
earlier-complete e i (p, q) = both-made (leb 1 i) (leb i e) (le-leb 1 i p) (le-leb i e q)

constant-sound : (c : ℤ) → is_constant c ≡ true → nat_abs c ≤ limit
constant-sound (pos n) p = leb-true n limit (both_true true (leb n limit) p).1
constant-sound (negsuc n) p = let b = both_true (leb n 1_999_999_999) true p in omega (arith, leb-true n 1_999_999_999 b.0)

constant-complete : (c : ℤ) → nat_abs c ≤ limit → is_constant c ≡ true
constant-complete (pos n) p = le-leb n limit p
constant-complete (negsuc n) p = both-made (leb n 1_999_999_999) true (le-leb n 1_999_999_999 (omega arith)) refl

exponent-sound : (m : ℕ) → is_exponent m ≡ true → (2 ≤ m) × (m ≤ 8)
exponent-sound m p = let b = both_true (leb 2 m) (leb m 8) p in (leb-true 2 m b.0, leb-true m 8 b.1)

exponent-complete : (m : ℕ) → (2 ≤ m) × (m ≤ 8) → is_exponent m ≡ true
exponent-complete m (p, q) = both-made (leb 2 m) (leb m 8) (le-leb 2 m p) (le-leb m 8 q)

-- Two tests, and what each says
pair-sound : {P Q : Type 0} (a b : Bool) → (a ≡ true → P) → (b ≡ true → Q) → (a && b) ≡ true → P × Q
pair-sound a b f g p = let t = both_true a b p in (f t.0, g t.1)

pub op-sound : (e : ℕ) (o : Op) → well_formed_op e o ≡ true → WellFormedOp e o
op-sound e (Add i j) p = pair-sound _ _ (earlier-sound e i) (earlier-sound e j) p
op-sound e (Mul i j) p = pair-sound _ _ (earlier-sound e i) (earlier-sound e j) p
op-sound e (AddC i c) p = pair-sound _ _ (earlier-sound e i) (constant-sound c) p
op-sound e (MulC i c) p =
    let (q, r) = pair-sound _ _ (earlier-sound e i) (pair-sound _ _ (constant-sound c) (leb-true 1 (nat_abs c))) p in
    (q, r.0, r.1)
op-sound e (Pow i m) p = pair-sound _ _ (earlier-sound e i) (exponent-sound m) p
op-sound e (Inv i) p = earlier-sound e i p

op-complete : (e : ℕ) (o : Op) → WellFormedOp e o → well_formed_op e o ≡ true
op-complete e (Add i j) (p, q) = both-made _ _ (earlier-complete e i p) (earlier-complete e j q)
op-complete e (Mul i j) (p, q) = both-made _ _ (earlier-complete e i p) (earlier-complete e j q)
op-complete e (AddC i c) (p, q) = both-made _ _ (earlier-complete e i p) (constant-complete c q)
op-complete e (MulC i c) (p, q, r) =
    both-made _ _ (earlier-complete e i p) (both-made (is_constant c) (is_multiplier c) (constant-complete c q) (le-leb 1 (nat_abs c) r))
op-complete e (Pow i m) (p, q) = both-made _ _ (earlier-complete e i p) (exponent-complete m q)
op-complete e (Inv i) p = earlier-complete e i p

-- Operations one after another
pub ops-sound : (e : ℕ) (xs : List Entry) → well_formed_ops e xs ≡ true → WellFormedOps e xs
unfolding well_formed_ops
ops-sound e [] p = tt
ops-sound e (x ∷ xs) p = pair-sound _ _ (op-sound e x.op) (ops-sound (e + 1) xs) p

pub ops-complete : (e : ℕ) (xs : List Entry) → WellFormedOps e xs → well_formed_ops e xs ≡ true
unfolding well_formed_ops
ops-complete e [] w = refl
ops-complete e (x ∷ xs) (p, q) = both-made _ _ (op-complete e x.op p) (ops-complete (e + 1) xs q)

-- One of them, by its index
pub op-at : (e : ℕ) (xs : List Entry) (d : Entry) (k : ℕ) → WellFormedOps e xs → k < length xs → WellFormedOp (e + k) (get_or xs k d).op
op-at e [] d k w h = absurd (omega arith)
op-at e (x ∷ xs) d zero w h = rw (add-zero e) w.0
op-at e (x ∷ xs) d (suc k) w h =
    let m : e + 1 + k ≡ e + suc k = omega arith in
    subst (λ (n : ℕ). WellFormedOp n (get_or xs k d).op) m (op-at (e + 1) xs d k w.1 (omega arith))
