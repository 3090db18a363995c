-- Laws of the output: what is put into 1,024 zeros is the written text.
use Prim.Native.Nat.{ℕ, ◌≤◌}
use mathlib.Core.List.{List, ◌∷◌, ◌++◌}
use mathlib.Core.Path.{◌≡◌, refl, ap, ◌∙◌}
use native.Mathlib.Omega.{arith}
use lib.IntN.{ℤ, pos, negsuc}
use lib.ListN.{length, take, replicate, length-append}
use Rattle.std.proofs.lemmas.List.{drop-replicate}
use Rattle.writer.specs.Lent.{Lent, lent, put_text}
use Rattle.writer.specs.Texts.{whole_text}
use Rattle.writer.proofs.Writing.{cut_off}
use Rattle.text.specs.Output.{whole_field}
use Rattle.text.specs.InFull.{Text, in_full}
use Rattle.text.specs.Answer.{written}

-- A field is a tab and the number's text
pub whole-field : (x : ℤ) → 9 ∷ whole_text x ≡ whole_field x
unfolding whole_field
whole-field (pos m) = refl
whole-field (negsuc m) = refl

-- What a text that was put into zeros is: the text as it is written
pub put_written : (o p : Lent) (t : List ℕ) → o ≡ lent (replicate 1024 0) 0 → p ≡ put_text o t → in_full p ≡ written t
unfolding written
put_written o p t n e =
    ap in_full (e ∙ ap (λ (x : Lent). put_text x t) n ∙ cut_off (replicate 1024 0) t)
    ∙ ap (λ (z : List ℕ). record { bytes = take 1024 t ++ z; len = length (take 1024 t) }) (drop-replicate (length t) 1024 0)

-- Its length is within its array
pub written-fits : (r : Text) (t : List ℕ) → r ≡ written t → r.len ≤ length r.bytes
unfolding written
written-fits r t e = rw e (simp length-append (omega arith))
