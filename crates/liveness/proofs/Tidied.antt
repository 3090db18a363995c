-- The tidied codelist is well formed: `tidied-fine`. Its operations, and where each stands. Assumes nothing.
use Prim.Native.Nat.{ℕ, suc, ◌+◌, ◌-◌}
use mathlib.Core.Bool.{Bool, true, false}
use mathlib.Core.List.{List, [], ◌∷◌}
use mathlib.Core.Path.{◌≡◌, refl, ap}
use native.Mathlib.Omega.{arith}
use lib.ListN.{length, drop, replicate, length-map}
use lib.Seq.{take-append_seam, drop-append_seam}
use Rattle.codelist.specs.declared.Codelist.{Codelist}
use Rattle.codelist.specs.declared.Entry.{Entry}
use Rattle.codelist.specs.declared.Year.{Year}
use Rattle.codelist.specs.Codelist.{blank, Earlier, WellFormed, WellFormedOp}
use Rattle.codelist.specs.Load.{codelist_of}
use Rattle.rules.specs.Run.{operations}
use Rattle.liveness.specs.Used.{lines}
use Rattle.liveness.specs.Tidied.{kept, picked, position, moved, tidy_ops, tidied_ops, tidied}
use Rattle.liveness.proofs.References.{renumbered-fine}
use Rattle.liveness.proofs.Positions.{position-kept, position-dropped, position-rises, position-above, position-least, position-same, picked-length}
use Rattle.liveness.proofs.Operations.{Each, fine-each, tidy-none, tidy-kept, tidy-dropped}
use Rattle.liveness.proofs.Used.{ClosedOp, kept-factor, kept-used, counted, fine, closed, last-used}

-- ---- one after another
module _ (k : ℕ → Bool) where
  moved-earlier : (e i : ℕ) → (k i ≡ true) × Earlier e i → Earlier (position k e) (position k i)
  unfolding position
  moved-earlier e i (g, (p, q)) =
      let a : i + (e - i) ≡ e = omega arith in
      (omega (arith, position-above k 0 i p g), rw a at (position-rises k i (e - i)))

  fine-tidied : (e : ℕ) (os : List Entry) → Each WellFormedOp e os → Each (ClosedOp k) e os → Each WellFormedOp (position k e) (tidy_ops k e os)
  fine-tidied e [] w c = rw (tidy-none k e) tt
  fine-tidied e (o ∷ os) w c = go (k (suc e)) refl (fine-tidied (suc e) os w.1 c.1)
    where
      go : (b : Bool) → k (suc e) ≡ b → Each WellFormedOp (position k (suc e)) (tidy_ops k (suc e) os)
          → Each WellFormedOp (position k e) (tidy_ops k e (o ∷ os))
      go true g h =
          rw (tidy-kept k e o os g)
          (renumbered-fine (position k) e (position k e) o.op w.0 (λ i r. moved-earlier e i (c.0 g i r)), rw (position-kept k e g) at h)
      go false g h = rw (tidy-dropped k e o os g) (rw (position-dropped k e g) at h)

-- ---- of a codelist
operations-of : (y : Year) (n : ℕ) (os : List Entry) → operations (codelist_of y n os) ≡ os
unfolding codelist_of
operations-of y n os = take-append_seam os _

blanks-of : (y : Year) (n : ℕ) (os : List Entry) → let d = codelist_of y n os in drop d.count d.ops ≡ replicate (64 - d.count) blank
unfolding codelist_of
blanks-of y n os = drop-append_seam os _

module _ (c : Codelist) where
  pub tidied-is : tidied c ≡ codelist_of c.year c.factors (tidied_ops c)
  unfolding tidied
  tidied-is = refl

  pub tidied-operations : operations (tidied c) ≡ tidied_ops c
  unfolding tidied
  tidied-operations = operations-of c.year c.factors (tidied_ops c)

  pub tidied-year : (tidied c).year ≡ c.year
  unfolding tidied codelist_of
  tidied-year = refl

  pub tidied-factors : (tidied c).factors ≡ c.factors
  unfolding tidied codelist_of
  tidied-factors = refl

  tidied-count : (tidied c).count ≡ length (tidied_ops c)
  unfolding tidied codelist_of
  tidied-count = refl

  tidied-blanks : drop (tidied c).count (tidied c).ops ≡ replicate (64 - (tidied c).count) blank
  unfolding tidied
  tidied-blanks = blanks-of c.year c.factors (tidied_ops c)

  -- the factors keep their numbers
  pub factor-number : position (kept c) c.factors ≡ c.factors
  factor-number = position-same (kept c) c.factors (λ j p q. kept-factor c j q)

  module _ (w : WellFormed c) where
    pub last-kept : kept c (lines c) ≡ true
    last-kept = kept-used c (lines c) (last-used c w)

    -- the last line's new number is that of the last line
    pub last-number : position (kept c) (lines c) ≡ lines (tidied c)
    unfolding tidy_ops
    last-number =
        let a : c.factors + length (operations c) ≡ lines c = ap (λ (m : ℕ). c.factors + m) (counted c w) in
        let h = picked-length (kept c) c.factors (operations c) in
        omega (
          arith,
          rw a at h,
          factor-number,
          tidied-count,
          tidied-factors,
          length-map (picked (kept c) c.factors (operations c)) (moved (position (kept c))),
        )

    pub tidied-fine : WellFormed (tidied c)
    tidied-fine = record {
      factors = rw tidied-factors w.factors;
      some = omega (arith, position-above (kept c) c.factors (lines c) (omega (arith, w.some)) last-kept, factor-number, last-number, tidied-factors);
      few = omega (arith, position-least (kept c) (lines c), last-number, w.few);
      each = rw (tidied-operations, tidied-factors)
          (fine-each c.factors (tidied_ops c) (rw factor-number at (fine-tidied (kept c) c.factors (operations c) (fine c w) (closed c w))));
      blanks = tidied-blanks;
    }
