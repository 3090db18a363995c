-- The loop that writes the lines of the factors. Assumes nothing.
use mathlib.Core.Path.{◌≡◌, refl, sym, ap, ap₂, ◌∙◌}
use mathlib.Core.Bool.{true}
use mathlib.Core.List.{List, [], ◌∷◌, ◌++◌}
use Prim.Native.Nat.{ℕ, zero, suc, ◌+◌, ◌-◌, ◌≤◌, ◌<◌}
use native.Mathlib.Nat as N
use native.Mathlib.Numerals.{add-one}
use native.Mathlib.Omega.{arith}
use lib.ListN.{length, get_or, take}
use lib.Seq.{take-suc, take_all}
use Rattle.range.specs.declared.Range.{Range}
use Rattle.range.specs.Limit.{is_valid}
use Rattle.range.specs.Sums.{at}
use Rattle.rules.specs.declared.Line.{Line}
use Rattle.rules.specs.Table.{factor_row, line_of}
use Rattle.rules.specs.Run.{no_line, each_valid, factor_lines}
use Rattle.rules.proofs.Accepted.{factors-length}
use Rattle.bounds.specs.declared.table.Table.{Table}
use Rattle.std.specs.Prelude.{Some}
use Rattle.bounds.specs.Table.{gradient_at, lines_up_to, Ready, Started, Worked}
use Rattle.bounds.proofs.Factors.{factor-fine}
use Rattle.bounds.proofs.Validity.{each_at}
use Rattle.bounds.proofs.Running.{ready-more, lines_more, row-placed, row-slopes}

-- ---- the lines of all factors
factor-at : (b i k : ℕ) (rs : List Range) → k < length rs → get_or (factor_lines b i rs) k no_line ≡ line_of (factor_row b (i + k) (at rs k))
unfolding factor_lines
factor-at b i k [] h = absurd (omega arith)
factor-at b i zero (r ∷ rs) h = ap (λ (j : ℕ). line_of (factor_row b j r)) (omega arith)
factor-at b i (suc k) (r ∷ rs) h = factor-at b (suc i) k rs (omega arith) ∙ ap (λ (j : ℕ). line_of (factor_row b j (at rs k))) (omega arith)

-- the first k lines are those of the first k factors, and g are the slopes of the last of them
pub record Begun (b : ℕ) (rs : List Range) (t : Table) (g : List Range) (k : ℕ) : Type 0 where
  pub started : Started (take k (factor_lines b 0 rs)) k t
  pub slopes : 1 ≤ k → g ≡ gradient_at t (k - 1)

module _ (b : ℕ) (rs : List Range) (v : each_valid rs ≡ true) where
  pub begun-none : (t : Table) (g : List Range) → Ready t 0 → Begun b rs t g 0
  unfolding lines_up_to
  begun-none t g i = record { started = record { ready = i; lines = refl }; slopes = λ h. absurd (omega arith) }

  pub begun_more : {t : Table} {g : List Range} {u : Table} {q : List Range} (k : ℕ) (r : Range) → Begun b rs t g k
      → k < length rs → r ≡ at rs k → Worked (factor_row b k r) t k (Some q) u → Begun b rs u q (k + 1)
  begun_more k r i h e p =
      let fine = factor-fine k b r (ap is_valid e ∙ each_at rs v k) in
      let placed = row-placed p in
      let here = ap (λ (q : Range). line_of (factor_row b k q)) e ∙ sym (rw N.zero-add at (factor-at b 0 k rs h)) in
      record {
        started = record {
          ready = ready-more k _ i.started.ready placed fine;
          lines = lines_more k _ i.started.ready placed
              ∙ ap₂ (λ (ls : List Line) (l : Line). ls ++ (l ∷ [])) i.started.lines here
              ∙ sym (take-suc (factor_lines b 0 rs) k no_line (omega (arith, factors-length b 0 rs)))
              ∙ ap (λ (n : ℕ). take n (factor_lines b 0 rs)) (sym (add-one k));
        };
        slopes = λ n. row-slopes p;
      }

  pub begun_all : (t : Table) (g : List Range) (n : ℕ) → length rs ≡ n → 1 ≤ n → Begun b rs t g n
      → Started (factor_lines b 0 rs) n t × (g ≡ gradient_at t (n - 1))
  begun_all t g n e one i =
      let all : take n (factor_lines b 0 rs) ≡ factor_lines b 0 rs = take_all n (factor_lines b 0 rs) (omega (arith, factors-length b 0 rs)) in
      (record { ready = i.started.ready; lines = i.started.lines ∙ all }, i.slopes one)
