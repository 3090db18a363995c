-- The tidied codelist has no dead line, so tidying it again changes nothing: `no-dead-line`, `idempotent`. Assumes nothing.
use Prim.Native.Nat.{ℕ, suc, ◌+◌, ◌-◌, ◌≤◌, ◌<◌}
use mathlib.Core.Bool.{Bool, true}
use mathlib.Core.List.{List, [], ◌∷◌}
use mathlib.Core.Path.{◌≡◌, sym, ap, ap₂, subst, ◌∙◌}
use native.Mathlib.Decide.{dec_le}
use native.Mathlib.Omega.{arith}
use lib.ListN.{length, get_or, get_or-map}
use Rattle.codelist.specs.declared.Codelist.{Codelist}
use Rattle.codelist.specs.declared.Entry.{Entry}
use Rattle.codelist.specs.Codelist.{blank, WellFormed, WellFormedOp}
use Rattle.codelist.specs.Load.{codelist_of}
use Rattle.rules.specs.Run.{operations}
use Rattle.liveness.specs.Used.{lines, op_at, Used, last, through}
use Rattle.liveness.specs.Tidied.{kept, picked, position, renumbered, moved, tidy_ops, tidied}
use Rattle.liveness.proofs.References.{earlier, renumbered-refers, renumbered-same}
use Rattle.liveness.proofs.Positions.{position-rises, position-above, position-same, Found, found, picked-at}
use Rattle.liveness.proofs.Operations.{Each, tidy-none, tidy-kept}
use Rattle.liveness.proofs.Used.{kept-factor, kept-used, used-kept, counted, fine, most, computed}
use Rattle.liveness.proofs.Tidied.{tidied-is, tidied-operations, tidied-year, tidied-factors, factor-number, last-number, tidied-fine}

-- ---- the operation of a kept line stands, renumbered, at its new number
tidy-at : (k : ℕ → Bool) (e : ℕ) (os : List Entry) (i : ℕ) → e < i → i ≤ e + length os → k i ≡ true
    → get_or (tidy_ops k e os) (position k i - position k e - 1) blank ≡ moved (position k) (get_or os (i - e - 1) blank)
unfolding tidy_ops position
tidy-at k e os i p q g = get_or-map (moved (position k)) (picked k e os) _ blank ∙ ap (moved (position k)) (picked-at k blank e os i p q g)

-- ---- where every line is kept, nothing changes
tidy-same : (k : ℕ → Bool) (e : ℕ) (os : List Entry) → Each WellFormedOp e os → ((j : ℕ) → 1 ≤ j → j ≤ e + length os → k j ≡ true)
    → tidy_ops k e os ≡ os
tidy-same k e [] w h = tidy-none k e
tidy-same k e (o ∷ os) w h =
    tidy-kept k e o os (h (suc e) (omega arith) (omega arith))
    ∙ ap₂ (λ (x : Entry) (xs : List Entry). x ∷ xs)
    (ap (λ op. record { op = op }) (renumbered-same (position k) o.op (λ i r.
    position-same k i (λ j p q. h j p (omega (arith, (earlier e o.op w.0 i r).1))))))
    (tidy-same k (suc e) os w.1 (λ j p q. h j p (omega arith)))

module _ (c : Codelist) (w : WellFormed c) where
  abbrev at : ℕ → ℕ
  at = position (kept c)

  at-operation : (i : ℕ) → c.factors < i → kept c i ≡ true → c.factors < at i
  at-operation i p g = omega (arith, position-above (kept c) c.factors i p g, factor-number c)

  op-at : (i : ℕ) → c.factors < i → i ≤ lines c → kept c i ≡ true → op_at (tidied c) (at i) ≡ renumbered at (op_at c i)
  op-at i p q g =
      let h = tidy-at (kept c) c.factors (operations c) i p (omega (arith, counted c w)) g in
      ap (λ (x : Entry). x.op)
      (ap₂ (λ (os : List Entry) (n : ℕ). get_or os (at i - n - 1) blank) (tidied-operations c) (tidied-factors c ∙ sym (factor-number c)) ∙ h)

  -- a used line is used at its new number
  used-at : (i : ℕ) → Used c i → Used (tidied c) (at i)
  used-at i last = subst (Used (tidied c)) (sym (last-number c w)) last
  used-at i (through {k} u p r) =
      let g = (computed c w k).1 u in
      let h = kept-used c k g in
      through {i = at i} (used-at k u) (rw (tidied-factors c) (at-operation k p h))
      (rw (op-at k p (most c w k g) h) (renumbered-refers at (op_at c k) i r))

  -- NO DEAD LINE
  pub no-dead-line : (k : ℕ) → c.factors < k → k ≤ lines (tidied c) → Used (tidied c) k
  no-dead-line k p q = go (found (kept c) k (lines c) (omega arith) (omega (arith, last-number c w)))
    where
      go : Found (kept c) k (lines c) → Used (tidied c) k
      go f = after (dec_le f.line c.factors)
        where
          after : Dec (f.line ≤ c.factors) → Used (tidied c) k
          after (yes y) =
              let a : f.line + (c.factors - f.line) ≡ c.factors = omega arith in
              absurd (omega (arith, rw a at (position-rises (kept c) f.line (c.factors - f.line)), factor-number c, f.number))
          after (no n) = subst (Used (tidied c)) f.number (used-at f.line ((computed c w f.line).0 (used-kept c f.line (omega arith) f.kept)))

  all-kept : (j : ℕ) → 1 ≤ j → j ≤ lines (tidied c) → kept (tidied c) j ≡ true
  all-kept j p q = go (dec_le j c.factors)
    where
      go : Dec (j ≤ c.factors) → kept (tidied c) j ≡ true
      go (yes y) = kept-factor (tidied c) j (rw (tidied-factors c) y)
      go (no n) = kept-used (tidied c) j ((computed (tidied c) (tidied-fine c w) j).1 (no-dead-line j (omega arith) q))

  -- TIDYING ONCE IS ENOUGH
  pub idempotent : tidied (tidied c) ≡ tidied c
  idempotent =
      let d = tidied c in
      let v = tidied-fine c w in
      let same = tidy-same (kept d) d.factors (operations d) (fine d v) (λ j p q. all-kept j p (omega (arith, counted d v))) in
      tidied-is d ∙ (λ i. codelist_of (tidied-year c i) (tidied-factors c i) ((same ∙ tidied-operations c) i)) ∙ sym (tidied-is c)
