-- How each answer comes about: 10, 8, 18, or what rating gives. And what numbers and places there are.
use Rattle.std.proofs.Common.{◌≡◌, ℕ, ◌<◌, ◌≤◌, Bool, true, false, cond, ◌&&◌, eqb, List, length, ℤ, sym, refl, ap, ◌∙◌, subst, true≢false, arith, lit<, lit≤, eq-eqb, eqb-true}
use mathlib.Core.List.{Memᴰ}
use mathlib.Core.Option.{Option, some, none}
use Rattle.codelist.specs.declared.Codelist.{Codelist}
use Rattle.codelist.proofs.Laws.{both_true, both-made}
use Rattle.rules.specs.declared.Limits.{Limits}
use Rattle.rules.specs.InFull as rating
use Rattle.rules.specs.declared.Refusal as rules
use Rattle.rules.specs.Rate as Rate
use Rattle.rules.specs.Rate.{rate_of}
use Rattle.encoding.specs.Decode.{decoded}
use Rattle.motmotdivan.specs.Record.{Read, numbers, fraction, ranges_of}
use Rattle.motmotdivan.specs.Calls.{quoted_rate_numbers, Answer, result, refusal, answered, answer_of, on_read, on_codelist, rate_answer}
use Rattle.motmotdivan.specs.Views.{RatePlaced}
use Rattle.motmotdivan.proofs.Answers.{held}
use Rattle.motmotdivan.proofs.Lowest.{fraction-within}
use Rattle.motmotdivan.proofs.Places.{rate-placed}

-- the desk holds c, and the lengths fit
pub record Fit (c : Codelist) (d x : List ℕ) (room : ℕ) : Type 0 where
  pub held : decoded d ≡ some c
  pub ranges : length x ≡ 128
  pub result : room ≡ 192

pub data Came (d x : List ℕ) (room : ℕ) (o : Answer) : Type 0 where
  no-codelist : decoded d ≡ none → o ≡ refusal 10 0 → Came d x room o
  other_length : (c : Codelist) → decoded d ≡ some c → ¬ ((length x ≡ 128) × (room ≡ 192)) → o ≡ refusal 8 0 → Came d x room o
  by_fraction : (c : Codelist) → Fit c d x room → (a : ℕ) → ranges_of x c.factors ≡ fraction a → o ≡ refusal 18 a → Came d x room o
  by-rating : (c : Codelist) → Fit c d x room → (xs : List ℤ) → ranges_of x c.factors ≡ numbers xs → o ≡ answer_of (rate_of c xs) → Came d x room o

module _ (d x : List ℕ) (room : ℕ) where
  -- the same answer, by what the desk holds and the record reads as
  pub read_answer : {c : Codelist} → Fit c d x room → rate_answer d x room ≡ on_read c (ranges_of x c.factors)
  unfolding rate_answer
  read_answer {c} f = ap (λ (o : Option Codelist). on_codelist o x room) f.held ∙ rw (eq-eqb (length x) 128 f.ranges, eq-eqb room 192 f.result)

  pub came : Came d x room (rate_answer d x room)
  unfolding rate_answer
  came = desk (decoded d) refl
    where
      ranges : (c : Codelist) → Fit c d x room → (q : Read) → ranges_of x c.factors ≡ q → Came d x room (on_read c q)
      ranges c f (numbers xs) e = by-rating c f xs e refl
      ranges c f (fraction a) e = by_fraction c f a e refl

      lengths : (c : Codelist) → decoded d ≡ some c → (t : Bool) → (eqb (length x) 128 && eqb room 192) ≡ t
          → Came d x room (cond t (on_read c (ranges_of x c.factors)) (refusal 8 0))
      lengths c e true h =
          let b = both_true (eqb (length x) 128) (eqb room 192) h in
          ranges c (record { held = e; ranges = eqb-true (length x) 128 b.0; result = eqb-true room 192 b.1 }) (ranges_of x c.factors) refl
      lengths c e false h =
          other_length c e (λ p. true≢false (sym (both-made _ _ (eq-eqb (length x) 128 p.0) (eq-eqb room 192 p.1)) ∙ h)) refl

      desk : (o : Option Codelist) → decoded d ≡ o → Came d x room (on_codelist o x room)
      desk none e = no-codelist e refl
      desk (some c) e = lengths c e (eqb (length x) 128 && eqb room 192) refl

-- a number, and the place beside it
pub record Listed (number place : ℕ) : Type 0 where
  pub some : 1 ≤ number
  pub two_digits : number < 100
  pub few : place ≤ 65
  pub in_list : Memᴰ number quoted_rate_numbers

abbrev pub ListedAnswer : Answer → Type 0
ListedAnswer (result l) = Unit
ListedAnswer (refusal n p) = Listed n p

rate-listed : (q : rules.Refusal) → Rate.place_of q ≤ 65 → Listed (Rate.number_of q) (Rate.place_of q)
rate-listed rules.TheVariants.NoCodelist h = record { some = lit≤ tt; two_digits = lit< tt; few = h; in_list = Memᴰ.head refl }
rate-listed rules.TheVariants.RangeCount h =
    record { some = lit≤ tt; two_digits = lit< tt; few = h; in_list = Memᴰ.tail (Memᴰ.head refl) }
rate-listed (rules.TheVariants.BadRange a) h = record {
  some = lit≤ tt;
  two_digits = lit< tt;
  few = h;
  in_list = Memᴰ.tail (Memᴰ.tail (Memᴰ.tail (Memᴰ.head refl)));
}
rate-listed (rules.TheVariants.Divisor k) h = record {
  some = lit≤ tt;
  two_digits = lit< tt;
  few = h;
  in_list = Memᴰ.tail (Memᴰ.tail (Memᴰ.tail (Memᴰ.tail (Memᴰ.head refl))));
}
rate-listed (rules.TheVariants.Overflow k) h = record {
  some = lit≤ tt;
  two_digits = lit< tt;
  few = h;
  in_list = Memᴰ.tail (Memᴰ.tail (Memᴰ.tail (Memᴰ.tail (Memᴰ.tail (Memᴰ.head refl)))));
}

rating-listed : (o : rating.Outcome) (l : Limits) → RatePlaced o → ListedAnswer (answered o l)
rating-listed rating.Rated l h = tt
rating-listed (rating.Refused q) l h = rate-listed q h

pub listed : (d x : List ℕ) (room : ℕ) → ListedAnswer (rate_answer d x room)
listed d x room = go (came d x room)
  where
    go : {o : Answer} → Came d x room o → ListedAnswer o
    go (no-codelist n e) = subst ListedAnswer (sym e) (rate-listed rules.TheVariants.NoCodelist (lit≤ tt))
    go (other_length c n o e) = subst ListedAnswer (sym e) (rate-listed rules.TheVariants.RangeCount (lit≤ tt))
    go (by_fraction c f a r e) =
        let w = fraction-within x 0 c.factors a r in
        let h = (held d c f.held).few in
        subst ListedAnswer (sym e) (record {
          some = lit≤ tt;
          two_digits = lit< tt;
          few = omega (arith, w.1, h.1);
          in_list = Memᴰ.tail (Memᴰ.tail (Memᴰ.head refl));
        })
    go (by-rating c f xs r e) = subst ListedAnswer (sym e) (rating-listed (rate_of c xs).outcome (rate_of c xs).limits (rate-placed c xs))
