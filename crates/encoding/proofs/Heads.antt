-- The front of the bytes, and the zeros behind the last operation: read back, and what is read.
use Prim.Native.Nat.{ℕ, suc, zero, ◌+◌, ◌-◌, ◌*◌, ◌≤◌}
use mathlib.Core.Bool.{true}
use mathlib.Core.List.{List, [], ◌∷◌, ◌++◌}
use mathlib.Core.Path.{◌≡◌, refl, ap, subst, ◌∙◌}
use native.Mathlib.Omega.{arith}
use lib.Dec.{eqb}
use lib.ListN.{length, get_or, take, drop, replicate, length-drop, length-append, length-replicate}
use lib.Seq.{drop_at, length-take-le}
use borrow.Author.Tests.{eqb-true, leb-true, eq-eqb, le-leb}
use Rattle.std.proofs.lemmas.Option.{cond_some}
use Rattle.std.specs.declared.option.Option.TheVariants.{Some}
use Rattle.codelist.specs.declared.Codelist.{Codelist}
use Rattle.codelist.specs.declared.Year.{Year}
use Rattle.codelist.specs.declared.Year.TheVariants.{Y2016, Y2014}
use Rattle.codelist.proofs.Laws.{both_true, both-made}
use Rattle.codelist.proofs.Ratable.{Counts, counts}
use Rattle.encoding.specs.declared.Front.{Front}
use Rattle.encoding.specs.Bytes.{are_bytes, are_zero}
use Rattle.encoding.specs.Encode.{year_byte, head_bytes}
use Rattle.encoding.specs.Decode.{counts_fit, is_year, year_of_byte, at_front, head_of}
use Rattle.encoding.proofs.Bytes.{first}
use Rattle.encoding.proofs.Zeros.{zeros-are, zeros-pass}

-- A codelist with these counts, for what is known of them alone
abbrev pub counting : ℕ → ℕ → Codelist
counting n m = record { factors = n; count = m; year = Y2016; ops = [] }

-- The year of its byte, and the byte of its year
pub year-back : (y : Year) → year_of_byte (year_byte y) ≡ y
year-back Y2016 = refl
year-back Y2014 = refl

pub year-small : (y : Year) → year_byte y ≤ 1
year-small Y2016 = omega arith
year-small Y2014 = omega arith

byte-back : (b : ℕ) → is_year b ≡ true → b ≡ year_byte (year_of_byte b)
byte-back zero e = refl
byte-back (suc zero) e = refl
byte-back (suc (suc b)) e = absurd (omega (arith, leb-true (suc (suc b)) 1 e))

-- What is read as n factors, m operations and the year y
pub record IsHead (b : List ℕ) (n m : ℕ) (y : Year) : Type 0 where
  pub long : length b ≡ 512
  pub bytes : are_bytes b ≡ true
  pub fit : counts_fit n m ≡ true
  pub counted : Counts (counting n m)
  pub front : take 8 b ≡ head_bytes n m (year_byte y)
  pub behind : drop (8 + 8 * m) b ≡ replicate (504 - 8 * m) 0

zeros_of : (s : List ℕ) (n : ℕ) → are_zero s ≡ true → length s ≡ n → s ≡ replicate n 0
zeros_of s n z e = zeros-are s z ∙ ap (λ (k : ℕ). replicate k 0) e

pub head-sound : (b : List ℕ) (h : Front) → head_of b ≡ Some h → IsHead b h.factors h.count h.year
unfolding head_of
head-sound b h p =
    let i = get_or b 0 0 in
    let j = get_or b 1 0 in
    let x = year_of_byte (get_or b 2 0) in
    let u = cond_some _ (at_front b) h p in
    let t5 = both_true _ (are_zero (drop (8 + 8 * j) b)) u.0 in
    let t4 = both_true _ (are_zero (take 5 (drop 3 b))) t5.0 in
    let t3 = both_true _ (is_year (get_or b 2 0)) t4.0 in
    let t2 = both_true _ (counts_fit i j) t3.0 in
    let t1 = both_true (eqb (length b) 512) (are_bytes b) t2.0 in
    let l = eqb-true (length b) 512 t1.0 in
    let c = counts (counting i j) t2.1 in
    let made : IsHead b i j x = record {
      long = l;
      bytes = t1.1;
      fit = t2.1;
      counted = c;
      front = rw (first b 0 7 (omega arith), first b 1 6 (omega arith), first b 2 5 (omega arith))
          (ap (λ (k : ℕ). i ∷ j ∷ k ∷ take 5 (drop 3 b)) (byte-back (get_or b 2 0) t3.1)
          ∙ ap (λ (s : List ℕ). i ∷ j ∷ year_byte x ∷ s) (zeros_of (take 5 (drop 3 b)) 5 t4.1 (length-take-le 5 (drop 3 b) (omega (arith, length-drop 3 b)))));
      behind = zeros_of (drop (8 + 8 * j) b) (504 - 8 * j) t5.1 (omega (arith, length-drop (8 + 8 * j) b, c.few, c.factors));
    } in
    subst (λ (h : Front). IsHead b h.factors h.count h.year) u.1 made

-- Of bytes that are written so
module _ (n m : ℕ) (y : Year) (c : Counts (counting n m)) (s : List ℕ) (l : length s ≡ 8 * m) where
  abbrev pub written : List ℕ
  written = head_bytes n m (year_byte y) ++ (s ++ replicate (504 - 8 * m) 0)

  pub written-length : length written ≡ 512
  written-length =
      let z : length (replicate {A = ℕ} (504 - 8 * m) 0) ≡ 504 - 8 * m = length-replicate (504 - 8 * m) _ in
      omega (arith, length-append s (replicate (504 - 8 * m) 0), c.few, c.factors.0)

  counts-pass : counts_fit n m ≡ true
  counts-pass =
      both-made _ _ (both-made _ _ (both-made _ _ (le-leb 1 n c.factors.0) (le-leb n 8 c.factors.1)) (le-leb 1 m c.some))
      (le-leb (n + m) 64 c.few)

  behind-pass : are_zero (drop (8 + 8 * m) written) ≡ true
  behind-pass =
      ap are_zero (drop_at (head_bytes n m (year_byte y) ++ s) (replicate (504 - 8 * m) 0) (8 + 8 * m) (omega arith)) ∙ zeros-pass (504 - 8 * m)

  pub head-complete : are_bytes written ≡ true → head_of written ≡ Some (record { factors = n; count = m; year = y })
  unfolding head_of are_zero
  head-complete b =
      rw (eq-eqb (length written) 512 written-length, b, counts-pass, le-leb (year_byte y) 1 (year-small y), behind-pass) (ap (λ (z : Year). Some (record { factors = n; count = m; year = z })) (year-back y))
