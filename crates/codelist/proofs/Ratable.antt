-- The Boolean `ratable` is true exactly where a codelist is ratable, and one step of it, as the loop of the code takes it; what a codelist with
-- fitting counts and a ratable one have besides; that every well formed one is ratable, and that no ratable one multiplies by 0.
use Prim.Native.Nat.{ℕ, ◌+◌, ◌-◌, ◌≤◌, ◌<◌}
use mathlib.Core.Bool.{true, false, ◌&&◌}
use mathlib.Core.List.{List}
use mathlib.Core.Path.{◌≡◌, sym, ap, subst, ◌∙◌}
use native.Mathlib.Numerals.{add-one}
use native.Mathlib.Omega.{arith}
use lib.Dec.{leb, eqb}
use lib.IntN.{ℤ, pos}
use lib.ListN.{length, get_or, take, drop, length-replicate, length-drop, drop_of_length-le}
use lib.Seq.{drop-cons, get_or-take, length-take-le}
use borrow.Author.Tests.{le-leb, eq-eqb, leb-true, eqb-true}
use Rattle.codelist.specs.declared.Codelist.{Codelist}
use Rattle.codelist.specs.declared.Entry.{Entry}
use Rattle.codelist.specs.declared.Op.TheVariants.{MulC}
use Rattle.codelist.specs.Codelist.{blank, WellFormedOp, WellFormed, Ratable, well_formed_op, well_formed_ops, in_bounds, ratable}
use Rattle.codelist.specs.Codelist.{DecidesRatable, NoZeroMultiplier}
use Rattle.codelist.proofs.Laws.{both_true, both-made}
use Rattle.codelist.proofs.WellFormed.{op-sound, ops-sound, ops-complete, op-at}

-- What the test of the counts says
pub record Counts (c : Codelist) : Type 0 where
  pub factors : (1 ≤ c.factors) × (c.factors ≤ 8)
  pub some : 1 ≤ c.count
  pub few : c.factors + c.count ≤ 64

pub counts : (c : Codelist) → in_bounds c ≡ true → Counts c
counts c p =
    let d = both_true (leb 1 c.factors && leb c.factors 8 && leb 1 c.count) (leb (c.factors + c.count) 64) p in
    let f = both_true (leb 1 c.factors && leb c.factors 8) (leb 1 c.count) d.0 in
    let g = both_true (leb 1 c.factors) (leb c.factors 8) f.0 in
    record {
      factors = (leb-true 1 c.factors g.0, leb-true c.factors 8 g.1);
      some = leb-true 1 c.count f.1;
      few = leb-true (c.factors + c.count) 64 d.1;
    }

pub bounded : (c : Codelist) → in_bounds c ≡ true → c.factors + c.count ≤ 64
bounded c p = (counts c p).few

-- The test by its parts: where the counts fit it is that of the operations
pub not-counted : (c : Codelist) → in_bounds c ≡ false → ratable c ≡ false
unfolding ratable
not-counted c e = rw e

pub by-operations : (c : Codelist) → in_bounds c ≡ true → length c.ops ≡ 64 → well_formed_ops c.factors (take c.count c.ops) ≡ ratable c
unfolding ratable
by-operations c e l = rw (e, eq-eqb (length c.ops) 64 l)

-- The operations from index k on, as a loop over them tests them
module _ (n : ℕ) (xs : List Entry) (k : ℕ) where
  module _ (d : Entry) (h : k < length xs) where
    entries-step : well_formed_ops (n + k) (drop k xs) ≡ (well_formed_op (n + k) (get_or xs k d).op && well_formed_ops (n + (k + 1)) (drop (k + 1) xs))
    unfolding well_formed_ops
    entries-step = let a : n + (k + 1) ≡ n + k + 1 = omega arith in rw (drop-cons xs k d h, a, add-one k)

    pub entries-fail : false ≡ well_formed_op (n + k) (get_or xs k d).op → well_formed_ops (n + k) (drop k xs) ≡ false
    entries-fail e = entries-step ∙ rw (← e)

    pub entries-pass : true ≡ well_formed_op (n + k) (get_or xs k d).op
        → well_formed_ops (n + (k + 1)) (drop (k + 1) xs) ≡ well_formed_ops (n + k) (drop k xs)
    entries-pass e = sym (entries-step ∙ rw (← e))

  pub entries-end : length xs ≤ k → well_formed_ops (n + k) (drop k xs) ≡ true
  unfolding well_formed_ops
  entries-end h = rw (drop_of_length-le xs h)

-- The same of the first `count` entries
module _ (n count : ℕ) (xs : List Entry) (few : count ≤ length xs) (k : ℕ) where
  ops-long : length (take count xs) ≡ count
  ops-long = length-take-le count xs few

  module _ (d : Entry) (h : k < count) where
    pub ops-fail : well_formed_op (n + k) (get_or xs k d).op ≡ false → well_formed_ops (n + k) (drop k (take count xs)) ≡ false
    ops-fail e = entries-fail n (take count xs) k d (omega (arith, ops-long)) (rw (get_or-take count xs k d h) (sym e))

    pub ops-pass : well_formed_op (n + k) (get_or xs k d).op ≡ true
        → well_formed_ops (n + (k + 1)) (drop (k + 1) (take count xs)) ≡ well_formed_ops (n + k) (drop k (take count xs))
    ops-pass e = entries-pass n (take count xs) k d (omega (arith, ops-long)) (rw (get_or-take count xs k d h) (sym e))

  pub ops-end : count ≤ k → well_formed_ops (n + k) (drop k (take count xs)) ≡ true
  ops-end h = entries-end n (take count xs) k (omega (arith, ops-long))

-- What a ratable codelist has besides: as many operations as it counts
pub taken : (c : Codelist) → Ratable c → length (take c.count c.ops) ≡ c.count
taken c w = length-take-le c.count c.ops (omega (arith, w.few, w.array))

-- EVERY WELL FORMED CODELIST IS RATABLE: its operations and the blanks behind them fill the array
pub well-formed-ratable : {c : Codelist} → WellFormed c → Ratable c
well-formed-ratable {c} w =
    let d : length c.ops - c.count ≡ 64 - c.count = sym (length-drop c.count c.ops) ∙ ap length w.blanks
    ∙ length-replicate (64 - c.count) blank in
    record { factors = w.factors; some = w.some; few = w.few; each = w.each; array = omega (arith, w.few, w.factors.0) }

sound : (c : Codelist) → ratable c ≡ true → Ratable c
unfolding ratable
sound c p =
    let a = both_true (in_bounds c && eqb (length c.ops) 64) (well_formed_ops c.factors (take c.count c.ops)) p in
    let b = both_true (in_bounds c) (eqb (length c.ops) 64) a.0 in
    let n = counts c b.0 in
    record {
      factors = n.factors;
      some = n.some;
      few = n.few;
      each = ops-sound c.factors (take c.count c.ops) a.1;
      array = eqb-true (length c.ops) 64 b.1;
    }

complete : (c : Codelist) → Ratable c → ratable c ≡ true
unfolding ratable
complete c w =
    both-made _ _
    (both-made _ _
    (both-made _ _
    (both-made _ _
    (both-made _ _ (le-leb 1 c.factors w.factors.0) (le-leb c.factors 8 w.factors.1))
    (le-leb 1 c.count w.some))
    (le-leb (c.factors + c.count) 64 w.few))
    (eq-eqb (length c.ops) 64 w.array))
    (ops-complete c.factors (take c.count c.ops) w.each)

-- `ratable` IS TRUE EXACTLY WHERE A CODELIST IS RATABLE
pub decides : DecidesRatable
decides c = (sound c, complete c)

-- NO MULTIPLYING BY NOTHING
pub no-zero-multiplier : NoZeroMultiplier
no-zero-multiplier = record {
  tested = λ e i c p z. none e i (subst (λ (n : ℤ). WellFormedOp e (MulC i n)) z (op-sound e (MulC i c) p));
  held = λ c w k i h z.
      let o = op-at c.factors (take c.count c.ops) blank k w.each (omega (arith, taken c w)) in
      none (c.factors + k) i (subst (WellFormedOp (c.factors + k)) (ap (λ (x : Entry). x.op) (get_or-take c.count c.ops k blank h) ∙ z) o);
}
  where
    none : (e i : ℕ) → WellFormedOp e (MulC i (pos 0)) → ⊥
    none e i w = omega (arith, w.2)
