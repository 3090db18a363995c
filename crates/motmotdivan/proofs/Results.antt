-- The bytes of a result while it is written: the doubles written so far stand at the front.
use Rattle.std.proofs.Common.{◌≡◌, ℕ, zero, suc, ◌+◌, ◌-◌, ◌*◌, ◌/◌, ◌<◌, ◌≤◌, List, [], ◌∷◌, ◌++◌, map, length, get_or, take, drop, replicate, ℤ, pos, sym, refl, ap, ◌∙◌, subst, append_assoc, append-nil, add-one, arith, lit≤, length-append, length-drop, length-take-le, take_all, take-suc, take_at, drop_at, drop-drop, drop_of_length-le}
use lib.ListN.{length-map}
use borrow.Rule.Slice.PartMut.{put_mid}
use lib.Ieee.{binary64, of_int, to_bits}
use Rattle.encoding.specs.Bytes.{low_first}
use Rattle.range.specs.declared.Range.{Range}
use Rattle.rules.specs.declared.Limits.{Limits}
use Rattle.rules.specs.Rate.{no_limits}
use Rattle.motmotdivan.specs.Doubles.{double_of}
use Rattle.motmotdivan.specs.Record.{ends_of, result_numbers, doubles_of, result_record}

low-first-length : (k u : ℕ) → length (low_first k u) ≡ k
unfolding low_first
low-first-length zero u = refl
low-first-length (suc k) u = ap suc (low-first-length k (u / 256))

pub double-length : (z : ℤ) → length (double_of z) ≡ 8
unfolding double_of
double-length z = low-first-length 8 (to_bits binary64 (of_int binary64 z))

doubles-length : (zs : List ℤ) → length (doubles_of zs) ≡ 8 * length zs
unfolding doubles_of
doubles-length [] = refl
doubles-length (z ∷ zs) = length-append (double_of z) (doubles_of zs) ∙ omega (arith, double-length z, doubles-length zs)

doubles-append : (xs ys : List ℤ) → doubles_of (xs ++ ys) ≡ doubles_of xs ++ doubles_of ys
unfolding doubles_of
doubles-append [] ys = refl
doubles-append (x ∷ xs) ys = ap (λ (t : List ℕ). double_of x ++ t) (doubles-append xs ys) ∙ sym (append_assoc (double_of x) (doubles_of xs) (doubles_of ys))

double-alone : (z : ℤ) → doubles_of (z ∷ []) ≡ double_of z
unfolding doubles_of
double-alone z = append-nil (double_of z)

-- an array of ranges, by what owning it tells: its parts, one by one
pub unmapped : (X Y : Type 0) (f : X → Y) (l : List X) (n : ℕ) → length (map f l) ≡ n → length l ≡ n
unmapped X Y f l n e = sym (length-map l f) ∙ e

-- the two ends of a range, one behind the other
pub range-put : (r : Range) → double_of r.low ++ double_of r.high ≡ doubles_of (ends_of (r ∷ []))
unfolding doubles_of ends_of
range-put r = ap (λ (t : List ℕ). double_of r.low ++ t) (sym (append-nil (double_of r.high)))

pub put_two : (s : List ℕ) (y z : ℤ) {a b : List ℕ} → length s ≡ 16 → a ≡ double_of y → b ≡ double_of z
    → put_mid 8 (length (a ++ drop 8 s) - 8) (a ++ drop 8 s) b ≡ double_of y ++ double_of z
put_two s y z {a} {b} l p q =
    let m : length a ≡ 8 = ap length p ∙ double-length y in
    let n : length (a ++ drop 8 s) - 8 ≡ 8 = omega (arith, length-append a (drop 8 s), length-drop 8 s) in
    let e : drop 8 (drop 8 s) ≡ [] = drop-drop 8 8 s ∙ drop_of_length-le s {i = 16} (omega arith) in
    rw (n, take_at a (drop 8 s) 8 m, drop_at a (drop 8 s) 8 m, e, p, q) (ap (λ (t : List ℕ). double_of y ++ t) (append-nil (double_of z)))

-- The numbers written so far, into 192 bytes
pub record Front (zs : List ℤ) (s : List ℕ) : Type 0 where
  pub long : length s ≡ 192
  pub front : take (8 * length zs) s ≡ doubles_of zs

pub front-none : (s : List ℕ) → length s ≡ 192 → Front [] s
unfolding doubles_of
front-none s h = record { long = h; front = refl }

-- more of them, in the n bytes from a place on
pub front-more : (zs ys : List ℤ) (s : List ℕ) (at n : ℕ) → Front zs s → 8 * length zs ≡ at → n ≡ 8 * length ys → at + n ≤ 192
    → Front (zs ++ ys) (put_mid at n s (doubles_of ys))
front-more zs ys s at n f e m h =
    let vs = doubles_of ys in
    let rest = drop n (drop at s) in
    let v = doubles-length ys in
    let t = length-take-le at s (omega (arith, f.long)) in
    let w : take at s ≡ doubles_of zs = ap (λ (k : ℕ). take k s) (sym e) ∙ f.front in
    let l : length (take at s ++ vs) ≡ 8 * length (zs ++ ys) = length-append (take at s) vs ∙ omega (arith, t, v, e, length-append zs ys) in
    record {
      long = length-append (take at s) (vs ++ rest) ∙ omega (arith, length-append vs rest, length-drop n (drop at s), length-drop at s, t, v, f.long);
      front =
          ap (take (8 * length (zs ++ ys))) (sym (append_assoc (take at s) vs rest))
          ∙ take_at (take at s ++ vs) rest (8 * length (zs ++ ys)) l
          ∙ ap (λ (t : List ℕ). t ++ vs) w ∙ sym (doubles-append zs ys);
    }

front-whole : (zs : List ℤ) (s : List ℕ) → Front zs s → length zs ≡ 24 → s ≡ doubles_of zs
front-whole zs s f h =
    sym (take_all (8 * length zs) s (omega (arith, f.long))) ∙ f.front

ends-length : (rs : List Range) → length (ends_of rs) ≡ 2 * length rs
unfolding ends_of
ends-length [] = refl
ends-length (r ∷ rs) = omega (arith, ends-length rs)

ends-append : (xs ys : List Range) → ends_of (xs ++ ys) ≡ ends_of xs ++ ends_of ys
unfolding ends_of
ends-append [] ys = refl
ends-append (x ∷ xs) ys = ap (λ (t : List ℤ). x.low ∷ x.high ∷ t) (ends-append xs ys)

-- The value and the slopes, the first k of them
slopes-length : (v : Range) (g : List Range) → length (ends_of (v ∷ []) ++ ends_of g) ≡ 2 + 2 * length g
slopes-length v g = length-append (ends_of (v ∷ [])) (ends_of g) ∙ omega (arith, ends-length (v ∷ []), ends-length g)

pub front-slope : (v : Range) (g : List Range) (k : ℕ) (d : Range) (s : List ℕ) → k < length g → k < 8
    → Front (ends_of (v ∷ []) ++ ends_of (take k g)) s
    → Front (ends_of (v ∷ []) ++ ends_of (take (k + 1) g)) (put_mid (16 + 16 * k) (32 + 16 * k - (16 + 16 * k)) s (doubles_of (ends_of (get_or g k d ∷ []))))
front-slope v g k d s h r f =
    let a = ends_of (v ∷ []) in
    let x = ends_of (take k g) in
    let y = ends_of (get_or g k d ∷ []) in
    let e : a ++ x ++ y ≡ a ++ ends_of (take (k + 1) g) =
    append_assoc a x y
    ∙ ap (λ (t : List ℤ). a ++ t)
    (sym (ap (λ (j : ℕ). ends_of (take j g)) (add-one k) ∙ ap ends_of (take-suc g k d h) ∙ ends-append (take k g) (get_or g k d ∷ []))) in
    let i : 32 + 16 * k - (16 + 16 * k) ≡ 8 * length y = omega (arith, ends-length (get_or g k d ∷ [])) in
    subst (λ (zs : List ℤ). Front zs (put_mid (16 + 16 * k) (32 + 16 * k - (16 + 16 * k)) s (doubles_of y))) e
    (front-more (a ++ x) y s (16 + 16 * k) _ f (omega (arith, slopes-length v (take k g), length-take-le k g (omega arith))) i (omega arith))

-- The numbers of a result, as they come: value and slopes, the two sets, bend, full
abbrev pub slopes : Limits → List ℤ
slopes l = ends_of (l.value ∷ []) ++ ends_of l.gradient

abbrev pub up_to_support : Limits → List ℤ
up_to_support l = slopes l ++ (pos l.support ∷ [])

abbrev pub up_to_nonlinear : Limits → List ℤ
up_to_nonlinear l = up_to_support l ++ (pos l.nonlinear ∷ [])

abbrev pub up_to_spectrum : Limits → List ℤ
up_to_spectrum l = up_to_nonlinear l ++ ends_of (l.spectrum ∷ [])

abbrev pub up_to_full : Limits → List ℤ
up_to_full l = up_to_spectrum l ++ ends_of (l.full ∷ [])

-- one number at the end
front-one : (zs : List ℤ) (z : ℤ) (s : List ℕ) (at : ℕ) → Front zs s → 8 * length zs ≡ at → at + 8 ≤ 192 → Front (zs ++ (z ∷ [])) (put_mid at 8 s (double_of z))
front-one zs z s at f e h =
    subst (λ (vs : List ℕ). Front (zs ++ (z ∷ [])) (put_mid at 8 s vs)) (double-alone z) (front-more zs (z ∷ []) s at 8 f e refl h)

module _ (l : Limits) (e : length l.gradient ≡ 8) where
  support-length : length (up_to_support l) ≡ 19
  support-length = length-append (slopes l) (pos l.support ∷ []) ∙ omega (arith, slopes-length l.value l.gradient, e)

  nonlinear-length : length (up_to_nonlinear l) ≡ 20
  nonlinear-length = length-append (up_to_support l) (pos l.nonlinear ∷ []) ∙ omega (arith, support-length)

  spectrum-length : length (up_to_spectrum l) ≡ 22
  spectrum-length = length-append (up_to_nonlinear l) (ends_of (l.spectrum ∷ [])) ∙ omega (arith, nonlinear-length, ends-length (l.spectrum ∷ []))

  pub full-length : length (up_to_full l) ≡ 24
  full-length = length-append (up_to_spectrum l) (ends_of (l.full ∷ [])) ∙ omega (arith, spectrum-length, ends-length (l.full ∷ []))

  pub all-numbers : up_to_full l ≡ result_numbers l
  unfolding ends_of
  all-numbers =
      append_assoc (up_to_nonlinear l) (ends_of (l.spectrum ∷ [])) (ends_of (l.full ∷ []))
      ∙ ap (λ (t : List ℤ). t ++ ends_of (l.spectrum ∷ l.full ∷ [])) (append_assoc (slopes l) (pos l.support ∷ []) (pos l.nonlinear ∷ []))

  module _ (s : List ℕ) where
    pub front-support : Front (slopes l) s → Front (up_to_support l) (put_mid 144 8 s (double_of (pos l.support)))
    front-support f = front-one (slopes l) (pos l.support) s 144 f (omega (arith, slopes-length l.value l.gradient, e)) (lit≤ tt)

    pub front-nonlinear : Front (up_to_support l) s → Front (up_to_nonlinear l) (put_mid 152 8 s (double_of (pos l.nonlinear)))
    front-nonlinear f = front-one (up_to_support l) (pos l.nonlinear) s 152 f (omega (arith, support-length)) (lit≤ tt)

    pub front-spectrum : Front (up_to_nonlinear l) s → Front (up_to_spectrum l) (put_mid 160 16 s (doubles_of (ends_of (l.spectrum ∷ []))))
    front-spectrum f = front-more (up_to_nonlinear l) (ends_of (l.spectrum ∷ [])) s 160 16 f (omega (arith, nonlinear-length)) (omega (arith, ends-length (l.spectrum ∷ []))) (lit≤ tt)

    pub front-full : Front (up_to_spectrum l) s → Front (up_to_full l) (put_mid 176 16 s (doubles_of (ends_of (l.full ∷ []))))
    front-full f = front-more (up_to_spectrum l) (ends_of (l.full ∷ [])) s 176 16 f (omega (arith, spectrum-length)) (omega (arith, ends-length (l.full ∷ []))) (lit≤ tt)

    -- THE WHOLE RESULT
    pub front-result : Front (up_to_full l) s → s ≡ result_record l
    unfolding result_record
    front-result f = front-whole (up_to_full l) s f full-length ∙ ap doubles_of all-numbers

-- The last four parts, one after another
pub front-last : (l : Limits) (s : List ℕ) {a b p q : List ℕ} → length l.gradient ≡ 8 → Front (slopes l) s
    → a ≡ double_of (pos l.support) → b ≡ double_of (pos l.nonlinear) → p ≡ doubles_of (ends_of (l.spectrum ∷ [])) → q ≡ doubles_of (ends_of (l.full ∷ []))
    → let t = put_mid 160 16 (put_mid 152 8 (put_mid 144 8 s a) b) p in put_mid 176 (length t - 176) t q ≡ result_record l
front-last l s {a} {b} {p} {q} g f i j k m =
    let s1 = put_mid 144 8 s (double_of (pos l.support)) in
    let s2 = put_mid 152 8 s1 (double_of (pos l.nonlinear)) in
    let s3 = put_mid 160 16 s2 (doubles_of (ends_of (l.spectrum ∷ []))) in
    let f3 : Front (up_to_spectrum l) s3 = front-spectrum l g s2 (front-nonlinear l g s1 (front-support l g s f)) in
    let n : length s3 - 176 ≡ 16 = omega (arith, f3.long) in
    rw (i, j, k, m, n) (front-result l g _ (front-full l g s3 f3))

-- After a refusal every number is 0, and so is every byte
pub no_result : result_record no_limits ≡ replicate 192 0
unfolding result_record no_limits ends_of doubles_of double_of of_int to_bits low_first
no_result = refl
