-- The tidied text is no longer than the sheet's: a line is dropped, or written with references that are no greater. No sheet has more than 1,266
-- bytes. Assumes nothing.
use Prim.Native.Nat.{ℕ, zero, suc, ◌/◌, ◌≤◌, ◌<◌}
use mathlib.Core.Bool.{Bool, true, false}
use mathlib.Core.List.{List, [], ◌∷◌, ◌++◌}
use mathlib.Core.Path.{◌≡◌, refl, ap}
use native.Mathlib.Decide.{dec_lt}
use native.Mathlib.Omega.{arith}
use lib.ListN.{length, length-append}
use Rattle.codelist.specs.declared.Codelist.{Codelist}
use Rattle.codelist.specs.declared.Entry.{Entry}
use Rattle.codelist.specs.declared.Op.{Op}
use Rattle.codelist.specs.declared.Op.TheVariants.{Add, Mul, AddC, MulC, Pow, Inv}
use Rattle.codelist.specs.Load.{load_of, accepted}
use Rattle.codelist.specs.Text.{decimal, numeral_text, first_text, line_text}
use Rattle.codelist.specs.Write.{plain, text_line_of, ops_text, text_with, field_of, text_of}
use Rattle.codelist.proofs.Accepted.{accepted-exactly}
use Rattle.codelist.proofs.Lengths.{one-digit, more-digits, shortest, text-length}
use Rattle.rules.specs.Run.{operations}
use Rattle.liveness.specs.Tidied.{kept, position, renumbered, tidy_ops, tidied_ops, tidied}
use Rattle.liveness.proofs.References.{Named, to_named}
use Rattle.liveness.proofs.Positions.{position-least}
use Rattle.liveness.proofs.Operations.{tidy-none, tidy-kept, tidy-dropped}
use Rattle.liveness.proofs.Tidied.{tidied-operations, tidied-year, tidied-factors}

decimal-rises : (k m n : ℕ) → m ≤ n → length (decimal k m) ≤ length (decimal k n)
unfolding decimal
decimal-rises zero m n h = omega arith
decimal-rises (suc k) m n h = go (dec_lt m 10) (dec_lt n 10) (decimal-rises k (m / 10) (n / 10))
  where
    go : Dec (m < 10) → Dec (n < 10) → (m / 10 ≤ n / 10 → length (decimal k (m / 10)) ≤ length (decimal k (n / 10)))
        → length (decimal (suc k) m) ≤ length (decimal (suc k) n)
    go (yes p) (yes q) ih = omega (arith, one-digit (suc k) m p, one-digit (suc k) n q)
    go (yes p) (no q) ih = omega (arith, one-digit (suc k) m p, more-digits k n (omega arith))
    go (no p) (yes q) ih = absurd (omega arith)
    go (no p) (no q) ih = omega (arith, more-digits k m (omega arith), more-digits k n (omega arith), ih (omega arith))

numeral-rises : (m n : ℕ) → m ≤ n → length (numeral_text (plain m)) ≤ length (numeral_text (plain n))
unfolding numeral_text
numeral-rises m n h = decimal-rises 9 m n h

-- one line
line-shorter : (f : ℕ → ℕ) (o : Op) → Named (λ i. f i ≤ i) o → length (line_text (text_line_of (renumbered f o))) ≤ length (line_text (text_line_of o))
line-shorter f (Add j k) n = simp length-append (omega (arith, numeral-rises (f j) j n.0, numeral-rises (f k) k n.1))
line-shorter f (Mul j k) n = simp length-append (omega (arith, numeral-rises (f j) j n.0, numeral-rises (f k) k n.1))
line-shorter f (AddC j c) n = simp length-append (omega (arith, numeral-rises (f j) j n))
line-shorter f (MulC j c) n = simp length-append (omega (arith, numeral-rises (f j) j n))
line-shorter f (Pow j m) n = simp length-append (omega (arith, numeral-rises (f j) j n))
line-shorter f (Inv j) n = simp length-append (omega (arith, numeral-rises (f j) j n))

-- one after another
ops-shorter : (k : ℕ → Bool) (e : ℕ) (os : List Entry) → length (ops_text (tidy_ops k e os)) ≤ length (ops_text os)
ops-shorter k e [] = rw (tidy-none k e) (omega arith)
ops-shorter k e (o ∷ os) = go (k (suc e)) refl (ops-shorter k (suc e) os)
  where
    go : (b : Bool) → k (suc e) ≡ b → length (ops_text (tidy_ops k (suc e) os)) ≤ length (ops_text os)
        → length (ops_text (tidy_ops k e (o ∷ os))) ≤ length (ops_text (o ∷ os))
    go true g h =
        let l = line-shorter (position k) o.op (to_named (λ i. position k i ≤ i) o.op (λ i r. position-least k i)) in
        rw (tidy-kept k e o os g) (simp length-append (omega arith))
    go false g h = rw (tidy-dropped k e o os g) (simp length-append (omega arith))

pub text-is : (c : Codelist) → text_of (tidied c) ≡ first_text (plain c.factors) (field_of c.year) ++ ops_text (tidied_ops c)
unfolding text_of text_with
text-is c = λ i. first_text (plain (tidied-factors c i)) (field_of (tidied-year c i)) ++ ops_text (tidied-operations c i)

text-shorter : (c : Codelist) → length (text_of (tidied c)) ≤ length (text_of c)
unfolding text_of text_with
text-shorter c =
    let p = first_text (plain c.factors) (field_of c.year) in
    omega (
      arith,
      ap length (text-is c),
      length-append p (ops_text (tidied_ops c)),
      length-append p (ops_text (operations c)),
      ops-shorter (kept c) c.factors (operations c),
    )

-- NO LONGER
pub no_longer : (s : List ℕ) (c : Codelist) → load_of s ≡ accepted c → length (text_of (tidied c)) ≤ length s
no_longer s c h = omega (arith, text-shorter c, shortest c s ((accepted-exactly.where-written s c).0 h).1)

-- AT MOST 1,266 bytes
pub at_most : (s : List ℕ) (c : Codelist) → load_of s ≡ accepted c → length s ≤ 1266
at_most s c h = let w = (accepted-exactly.where-written s c).0 h in text-length c w.0 s w.1
