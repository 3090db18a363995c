-- Sixteen numbers of which some count, with zeros behind them: one more of them. Assumes nothing.
use Prim.Native.Nat.{ℕ, suc, ◌+◌, ◌-◌, ◌<◌}
use mathlib.Core.List.{List, [], ◌∷◌, ◌++◌, append_assoc}
use mathlib.Core.Path.{◌≡◌, sym, ap, ap₂, ◌∙◌}
use native.Mathlib.Omega.{arith}
use lib.IntN.{ℤ, pos}
use lib.ListN.{length, take, set, replicate}
use lib.Seq.{set-append_seam, take-append-add}
use Rattle.std.proofs.lemmas.List.{length_push}
use Rattle.text.specs.Boxes.{sixteen, Fits}

module _ (ends : List ℤ) (count : ℕ) (x : ℤ) (f : Fits ends count) (h : count < 16) where
  abbrev xs : List ℤ
  xs = take count ends

  abbrev zeros : List ℤ
  zeros = replicate (15 - count) (pos 0)

  parted : ends ≡ xs ++ (pos 0 ∷ zeros)
  parted =
      let room : 16 - length xs ≡ suc (15 - count) = omega (arith, f.whole) in
      sym f.zeros ∙ ap (λ (k : ℕ). xs ++ replicate k (pos 0)) room

  put : set ends count x ≡ xs ++ (x ∷ zeros)
  put = ap₂ (λ (l : List ℤ) (k : ℕ). set l k x) parted (sym f.whole) ∙ set-append_seam xs (pos 0) zeros x

  front : take (count + 1) (set ends count x) ≡ xs ++ (x ∷ [])
  front =
      let n : count + 1 ≡ length xs + 1 = omega (arith, f.whole) in
      ap₂ (λ (k : ℕ) (l : List ℤ). take k l) n put ∙ take-append-add xs (x ∷ zeros) 1

  pub one-more : Fits (set ends count x) (count + 1)
  one-more =
      let n : length (xs ++ (x ∷ [])) ≡ count + 1 = omega (arith, length_push xs x, f.whole) in
      let k : 16 - length (xs ++ (x ∷ [])) ≡ 15 - count = omega (arith, n) in
      record {
        few = omega (arith, h);
        whole = ap length front ∙ n;
        zeros =
            ap sixteen front
            ∙ append_assoc xs (x ∷ []) (replicate (16 - length (xs ++ (x ∷ []))) (pos 0))
            ∙ ap (λ (m : ℕ). xs ++ (x ∷ replicate m (pos 0))) k
            ∙ sym put;
      }
