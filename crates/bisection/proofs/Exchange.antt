-- Swapped references change no answer of a class cut finer: `exchange-cut`. The parts are cut by their ranges alone, and each is rated alike. Assumes
-- nothing.
use mathlib.Core.Path.{◌≡◌, refl}
use mathlib.Core.List.{List}
use Prim.Native.Nat.{ℕ, zero, suc}
use lib.IntN.{nat_abs}
use Rattle.codelist.specs.declared.Codelist.{Codelist}
use Rattle.codelist.specs.Exchange.{Exchanged}
use Rattle.range.specs.declared.Range.{Range}
use Rattle.rules.specs.Rate.{pairs, first_bad}
use Rattle.rules.proofs.Exchange.{ratable-exchanged, ranges-exchanged}
use Rattle.bisection.specs.Cut.{lower_part, upper_part, parts, parts_of, counted_of, cut_of}
use Rattle.bisection.specs.Exchange.{ExchangeCut}

module _ {c d : Codelist} (h : Exchanged c d) where
  parts-exchanged : (k : ℕ) (rs : List Range) → parts k c rs ≡ parts k d rs
  unfolding parts
  parts-exchanged zero rs = ranges-exchanged h rs 0
  parts-exchanged (suc k) rs =
      rw (ranges-exchanged h rs 0, parts-exchanged k (lower_part rs), parts-exchanged k (upper_part rs))

  bad-exchanged : (k : ℕ) (rs : List Range) (n : ℕ) → parts_of k c rs n ≡ parts_of k d rs n
  unfolding parts_of
  bad-exchanged k rs zero = parts-exchanged k rs
  bad-exchanged k rs (suc a) = refl

pub exchange-cut : ExchangeCut
unfolding cut_of counted_of
exchange-cut e f xs d h =
    rw (ratable-exchanged h, bad-exchanged h (nat_abs d) (pairs xs) (first_bad 1 (pairs xs)), h.factors)
