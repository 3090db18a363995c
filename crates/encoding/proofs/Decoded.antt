-- Decoding is the inverse of encoding.
use Prim.Native.Nat.{ℕ, ◌-◌, ◌*◌}
use mathlib.Core.Bool.{true}
use mathlib.Core.List.{List, ◌++◌}
use mathlib.Core.Option.{Option, none, some}
use mathlib.Core.Path.{◌≡◌, refl, sym, ap, subst, ◌∙◌}
use native.Mathlib.Omega.{arith}
use lib.ListN.{length, take, drop, replicate, take-append-drop}
use lib.Seq.{take-append_seam, drop-append_seam, drop-drop}
use Rattle.std.specs.declared.option.Option as read
use Rattle.std.specs.declared.option.Option.TheVariants.{Some, None}
use Rattle.codelist.specs.declared.Codelist.{Codelist}
use Rattle.codelist.specs.declared.Entry.{Entry}
use Rattle.codelist.specs.declared.Year.{Year}
use Rattle.codelist.specs.Codelist.{WellFormed, WellFormedOps, blank}
use Rattle.codelist.specs.Load.{codelist_of}
use Rattle.codelist.proofs.Ratable.{Counts, taken, well-formed-ratable}
use Rattle.encoding.specs.declared.Front.{Front}
use Rattle.encoding.specs.Bytes.{are_bytes}
use Rattle.encoding.specs.Encode.{ops_bytes, year_byte, head_bytes, encoded}
use Rattle.encoding.specs.Decode.{head_of, ops_from, on_head, holding, decoded}
use Rattle.encoding.specs.Decoded.{DecodesExactly}
use Rattle.encoding.proofs.Bytes.{bytes-at, bytes-append, bytes-zeros}
use Rattle.encoding.proofs.Heads.{counting, year-small, IsHead, head-sound, head-complete, written-length}
use Rattle.encoding.proofs.Sequences.{Read, sequence-sound, sequence-complete}
use Rattle.encoding.proofs.Storing.{ops-length}
use Rattle.encoding.proofs.Written.{ops-bytes, head-bytes}

-- The codelist of the year y, n factors and the operations xs
module _ (y : Year) (n : ℕ) (xs : List Entry) (c : Counts (counting n (length xs))) (w : WellFormedOps n xs) where
  taken-are : take (length xs) (codelist_of y n xs).ops ≡ xs
  unfolding codelist_of
  taken-are = take-append_seam xs (replicate (64 - length xs) blank)

  made : WellFormed (codelist_of y n xs)
  unfolding codelist_of
  made = record {
    factors = c.factors;
    some = c.some;
    few = c.few;
    each = subst (WellFormedOps n) (sym taken-are) w;
    blanks = drop-append_seam xs (replicate (64 - length xs) blank);
  }

  bytes-are : encoded (codelist_of y n xs) ≡ head_bytes n (length xs) (year_byte y) ++ (ops_bytes xs ++ replicate (504 - 8 * length xs) 0)
  unfolding encoded codelist_of
  bytes-are = ap (λ (ys : List Entry). head_bytes n (length xs) (year_byte y) ++ (ops_bytes ys ++ replicate (504 - 8 * length xs) 0)) taken-are

-- Decoded, then encoded
module _ (b : List ℕ) (n m : ℕ) (y : Year) (xs : List Entry) (h : IsHead b n m y) (r : Read b n 0 m xs) where
  counted : Counts (counting n (length xs))
  counted = subst (λ (k : ℕ). Counts (counting n k)) (sym r.many) h.counted

  abbrev whole : List ℕ → List ℕ → List ℕ → List ℕ
  whole s t u = s ++ (t ++ u)

  parts : b ≡ whole (head_bytes n m (year_byte y)) (ops_bytes xs) (replicate (504 - 8 * m) 0)
  parts =
      let d = drop 8 b in
      sym (ap (λ (s : List ℕ). take 8 b ++ s) (take-append-drop (8 * m) d) ∙ take-append-drop 8 b)
      ∙ ap (λ (s : List ℕ). whole s (take (8 * m) d) (drop (8 * m) d)) h.front
      ∙ ap (λ (s : List ℕ). whole (head_bytes n m (year_byte y)) s (drop (8 * m) d)) r.bytes
      ∙ ap (whole (head_bytes n m (year_byte y)) (ops_bytes xs)) (drop-drop (8 * m) 8 b ∙ h.behind)

  sound : WellFormed (codelist_of y n xs) × (b ≡ encoded (codelist_of y n xs))
  sound = (
    made y n xs counted r.each,
    parts ∙ ap (λ (k : ℕ). head_bytes n k (year_byte y) ++ (ops_bytes xs ++ replicate (504 - 8 * k) 0)) (sym r.many)
        ∙ sym (bytes-are y n xs counted r.each),
  )

holding-sound : (b : List ℕ) (c : Codelist) (n m : ℕ) (y : Year) → IsHead b n m y → (r : Option (List Entry)) → ops_from b n 0 m ≡ r → holding y n r ≡ some c
    → WellFormed c × (b ≡ encoded c)
holding-sound b c n m y h (some xs) p q =
    let e : codelist_of y n xs ≡ c = cc in
    subst (λ (d : Codelist). WellFormed d × (b ≡ encoded d)) e (sound b n m y xs h (sequence-sound b h.bytes n 0 m xs p))
holding-sound b c n m y h none p q = cc

decoded-sound : (b : List ℕ) (c : Codelist) → decoded b ≡ some c → WellFormed c × (b ≡ encoded c)
unfolding decoded
decoded-sound b c p = go (head_of b) refl p
  where
    go : (r : read.Option Front) → head_of b ≡ r → on_head r (λ h. holding h.year h.factors (ops_from b h.factors 0 h.count)) ≡ some c
        → WellFormed c × (b ≡ encoded c)
    go (Some h) q t = holding-sound b c h.factors h.count h.year (head-sound b h q) (ops_from b h.factors 0 h.count) refl t
    go None q t = cc

-- Encoded, then decoded
module _ (c : Codelist) (w : WellFormed c) where
  xs : List Entry
  xs = take c.count c.ops

  many : length xs ≡ c.count
  unfolding xs
  many = taken c (well-formed-ratable w)

  counts_of : Counts (counting c.factors c.count)
  counts_of = record { factors = w.factors; some = w.some; few = w.few }

  ops-long : length (ops_bytes xs) ≡ 8 * c.count
  ops-long = ops-length xs ∙ ap (λ (k : ℕ). 8 * k) many

  bytes-written : are_bytes (encoded c) ≡ true
  unfolding encoded xs
  bytes-written =
      bytes-append (head_bytes c.factors c.count (year_byte c.year)) (ops_bytes xs ++ replicate (504 - 8 * c.count) 0)
      (head-bytes c.factors c.count (year_byte c.year) (omega (arith, w.factors)) (omega (arith, w.few)) (omega (arith, year-small c.year)))
      (bytes-append (ops_bytes xs) (replicate (504 - 8 * c.count) 0)
      (ops-bytes c.factors xs (omega (arith, many, w.few)) w.each) (bytes-zeros (504 - 8 * c.count)))

  long : length (encoded c) ≡ 512
  unfolding encoded xs
  long = written-length c.factors c.count c.year counts_of (ops_bytes xs) ops-long

  -- a well formed codelist is the one of its year, its factors and its operations
  the_same : codelist_of c.year c.factors xs ≡ c
  unfolding codelist_of xs
  the_same =
      let filled : xs ++ replicate (64 - length xs) blank ≡ c.ops =
      ap (λ (k : ℕ). xs ++ replicate (64 - k) blank) many ∙ ap (λ (t : List Entry). xs ++ t) (sym w.blanks) ∙ take-append-drop c.count c.ops in
      λ i. record { factors = c.factors; count = many i; year = c.year; ops = filled i }

  decoded-complete : decoded (encoded c) ≡ some c
  unfolding decoded encoded xs
  decoded-complete =
      rw (head-complete c.factors c.count c.year counts_of (ops_bytes xs) ops-long bytes-written)
      (ap (holding c.year c.factors)
      (ap (ops_from (encoded c) c.factors 0) (sym many)
      ∙ sequence-complete (encoded c) c.factors 0 xs (replicate (504 - 8 * c.count) 0) long (omega (arith, many, w.few, w.factors.0)) refl w.each)
      ∙ ap some the_same)

-- DECODED EXACTLY WHERE ENCODED
pub decodes-exactly : DecodesExactly
unfolding decoded head_of are_bytes
decodes-exactly = record {
  where-encoded = λ b c. (decoded-sound b c, λ p. ap decoded p.1 ∙ decoded-complete c p.0);
  long = long;
  bytes = λ c w. bytes-at (encoded c) (bytes-written c w);
  zeros = refl;
  one-encoding = λ a b c p q. (decoded-sound a c p).1 ∙ sym (decoded-sound b c q).1;
  one-codelist = λ c d v w e.
      let q : some c ≡ some d = sym (decoded-complete c v) ∙ ap decoded e ∙ decoded-complete d w in
      cc;
}
