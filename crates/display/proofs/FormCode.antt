-- Forms: the ways out of the code that makes a form longer. Assumes nothing.
use mathlib.Core.Path.{◌≡◌, refl, sym, ap, ◌∙◌}
use mathlib.Core.Bool.{Bool, true, false}
use mathlib.Core.List.{List, [], ◌∷◌}
use Prim.Native.Nat.{ℕ, suc, ◌+◌, ◌*◌, ◌/◌, ◌%◌, ◌<◌, ◌≤◌, min}
use native.Mathlib.Omega.{arith}
use native.Mathlib.Numerals.{add-one}
use native.Mathlib.Nat.{mod-lt, mod-add-mod}
use borrow.Author.Rules.{rules}
use borrow.Author.Tests.{ltb-true, ltb-false, ne_eqb, eqb-true, eqb-false}
use mir.Val.{Fits}
use mir.Syntax.{w64}
use lib.Dec.{eqb, ltb}
use lib.ListN.{length, drop, get_or, drop_of_length-le}
use lib.Seq.{drop-cons}
use Rattle.octets.specs.Working.Choice.{pick}
use Rattle.octets.specs.Plain.Numbers.{le_at}
use Rattle.parse_tree.specs.Plain.Tree.{Text}
use Rattle.texts.specs.declared.Map.{Map}
use Rattle.texts.specs.Hash.{hash_by, power_by, hash_step, hash_from, hash_of, power}
use Rattle.texts.specs.Forms.{stop}
use Rattle.texts.specs.Fields.{hash_at}
use Rattle.texts.specs.Table.{texts}
use Rattle.texts.proofs.FormLaws.{power_small, power-times, mod_factor, mod_factor_right}
use Rattle.texts.proofs.TextCode.{texts-at}
use Rattle.grades.proofs.WordsCode.{text_beyond}
use Rattle.display.specs.declared.form.Form.{Form}
use Rattle.display.specs.Follow.{word_at}
use Rattle.display.specs.Form.{text_form, odd_times, whole_of, join_of, Hashed, more_of, form_from, From}
use Rattle.display.proofs.FormLaws.{same_form, from_form, from_join, from_none, from_as, from-append}
use Rattle.display.proofs.MeetCode.{word_is}

-- ---- none, snoc, one
pub none_is : (r : Form) → r.hash ≡ 0 → r.power ≡ 1 → r.len ≡ 0 → r ≡ text_form []
unfolding text_form hash_of hash_from hash_by power power_by stop pick
none_is r h p l = same_form h p l

pub snoc_length : (f : Form) → Fits w64 (f.len + 1)
snoc_length f = record { fits = omega (arith, f.short) }

pub snoc_done : (f r : Form) (b : ℕ) → r.hash ≡ hash_step f.hash b → r.power ≡ f.power * 2654435761 % 4294967296 → r.len ≡ stop (f.len + 1) → From f (b ∷ []) r
unfolding form_from more_of
snoc_done f r b h p l = record { is = same_form h p l }

pub one_is : (f r : Form) (b : ℕ) → f ≡ text_form [] → From f (b ∷ []) r → r ≡ text_form (b ∷ [])
one_is f r b e a = a.is ∙ ap (λ (x : Form). form_from x (b ∷ [])) e ∙ from_form [] (b ∷ [])

pub ruleset forming = (rules, none_is, snoc_length, snoc_done, one_is)

-- ---- power_of
-- r by the power of b by k is the power that is asked
pub record Powering (n r b k : ℕ) : Type 0 where
  pub is : r * power_by b k % 4294967296 ≡ power n
  pub small : r < 4294967296
  pub base : b < 4294967296

pub power-start : (n : ℕ) → Powering n 1 2654435761 n
unfolding power
power-start n = record { is = omega (arith, power_small 2654435761 n); small = omega arith; base = omega arith }

square : (b k : ℕ) → b < 4294967296 → power_by (b * b % 4294967296) k ≡ power_by b (k * 2)
unfolding power_by
square b k h =
    let z : 1 * b % 4294967296 ≡ b = omega arith in
    let e : power_by b 2 ≡ b * b % 4294967296 = ap (λ (x : ℕ). x * b % 4294967296) z in
    ap (λ (x : ℕ). power_by x k) (sym e) ∙ power-times b 2 k

odd_power : (b k : ℕ) → k % 2 ≡ 1 → power_by b k ≡ power_by b (k / 2 * 2) * b % 4294967296
unfolding power_by
odd_power b k h = let z : k ≡ suc (k / 2 * 2) = omega arith in ap (power_by b) z

turn : (r p b : ℕ) → r * (p * b % 4294967296) % 4294967296 ≡ r * b % 4294967296 * p % 4294967296
turn r p b =
    let z : r * (p * b) ≡ r * b * p = omega arith in
    mod_factor_right r (p * b) ∙ ap (λ (x : ℕ). x % 4294967296) z ∙ sym (mod_factor (r * b) p)

module _ (n r b k : ℕ) (g : Powering n r b k) (b' k' : ℕ) (sq : b' ≡ b * b % 4294967296) (half : k' ≡ k / 2) where
  less : b' < 4294967296
  less = rw sq (mod-lt (b * b) (omega arith))

  squared : power_by b' k' ≡ power_by b (k / 2 * 2)
  squared = ap (λ (x : ℕ). power_by x k') sq ∙ ap (λ (x : ℕ). power_by (b * b % 4294967296) x) half ∙ square b (k / 2) g.base

  power-odd : (r' : ℕ) → k % 2 ≡ 1 → r' ≡ r * b % 4294967296 → Powering n r' b' k'
  power-odd r' h e = record {
    is = ap (λ (x : ℕ). r' * x % 4294967296) squared
        ∙ ap (λ (x : ℕ). x * power_by b (k / 2 * 2) % 4294967296) e
        ∙ sym (turn r (power_by b (k / 2 * 2)) b)
        ∙ ap (λ (x : ℕ). r * x % 4294967296) (sym (odd_power b k h))
        ∙ g.is;
    small = rw e (mod-lt (r * b) (omega arith));
    base = less;
  }

  power-even : (k % 2 ≡ 1 → ⊥) → Powering n r b' k'
  power-even h =
      let z : k / 2 * 2 ≡ k = omega arith in
      record { is = ap (λ (x : ℕ). r * x % 4294967296) (squared ∙ ap (power_by b) z) ∙ g.is; small = g.small; base = less }

  pub power-next : (r' : ℕ) → r' ≡ odd_times r b k → Powering n r' b' k'
  unfolding odd_times pick
  power-next r' e = go (eqb (k % 2) 1) refl
    where
      go : (c : Bool) → eqb (k % 2) 1 ≡ c → Powering n r' b' k'
      go true z = let q : r' ≡ r * b % 4294967296 = cc in power-odd r' (eqb-true (k % 2) 1 z) q
      go false z = let q : r' ≡ r = cc in rw q (power-even (eqb-false (k % 2) 1 z))

pub odd_is : (r b k x : ℕ) → k % 2 ≡ 1 → x ≡ r * b % 4294967296 → x ≡ odd_times r b k
unfolding odd_times pick
odd_is r b k x h e = cc

pub even_is : (r b k : ℕ) → (k % 2 ≡ 1 → ⊥) → r ≡ odd_times r b k
unfolding odd_times pick
even_is r b k h = cc (ne_eqb (k % 2) 1 h)

pub power-done : (n r b k : ℕ) → Powering n r b k → k ≤ 0 → r ≡ power n
unfolding power_by
power-done n r b k g h = let z : k ≡ 0 = omega arith in let q : r * power_by b 0 % 4294967296 ≡ power n = rw z at g.is in omega (arith, g.small)

pub ruleset powering = (rules, power-start, power-next, power-done, odd_is, even_is)

-- ---- stopped, whole, join
pub stopped_is : (n k : ℕ) → k ≡ min n 65536 → k ≡ stop n
unfolding stop pick
stopped_is n k e = go (ltb n 65536) refl
  where
    go : (c : Bool) → ltb n 65536 ≡ c → k ≡ pick (ltb n 65536) n 65536
    go true z = let l = ltb-true n 65536 z in rw z (omega arith)
    go false z = let l = ltb-false n 65536 z in rw z (omega arith)

pub stopped_most : (n k : ℕ) → k ≡ min n 65536 → k ≤ 65536
stopped_most n k e = omega arith

pub whole_done : (h n : ℕ) (r : Form) → r.hash ≡ h → r.power ≡ power n → r.len ≡ stop n → r ≡ whole_of h n
unfolding whole_of
whole_done h n r a p l = same_form a p l

pub join_len_fits : (x y : Form) → Fits w64 (x.len + y.len)
join_len_fits x y = record { fits = omega (arith, x.short, y.short) }

pub join_done : (x y r : Form) → r.hash ≡ (x.hash * y.power % 4294967296 + y.hash) % 4294967296 → r.power ≡ x.power * y.power % 4294967296 → r.len ≡ stop (x.len + y.len) → r ≡ join_of x y
unfolding join_of
join_done x y r h p l = same_form (h ∙ mod-add-mod (x.hash * y.power) 4294967296 y.hash) p l

pub ruleset joining = (rules, stopped_is, stopped_most, whole_done, join_len_fits, join_done)

-- ---- snocs: g is f with what was passed more
pub record Passing (f : Form) (t : Text) (g : Form) (i : ℕ) : Type 0 where
  pub rest : form_from g (drop i t) ≡ form_from f t

pub snocs_start : (f : Form) (t : Text) → Passing f t f 0
snocs_start f t = record { rest = refl }

module _ (f : Form) (t : Text) (g : Form) (i : ℕ) (p : Passing f t g i) where
  pub snocs_next : (r : Form) → i < length t → From g (get_or t i 0 ∷ []) r → Passing f t r (i + 1)
  snocs_next r l a =
      let z : drop i t ≡ get_or t i 0 ∷ drop (i + 1) t = cc (drop-cons t i 0 l, add-one i) in
      record { rest = ap (λ (y : Form). form_from y (drop (i + 1) t)) a.is ∙ sym (from-append g (get_or t i 0 ∷ []) (drop (i + 1) t)) ∙ ap (form_from g) (sym z) ∙ p.rest }

  pub snocs_done : length t ≤ i → From f t g
  unfolding form_from
  snocs_done l = record { is = cc (drop_of_length-le t {i = i} l, p.rest) }

pub ruleset following = (rules, snocs_start, snocs_next, snocs_done)

-- ---- named
module _ (s w : List ℕ) (m : Map) (k h : ℕ) (g : Hashed s w m) (l : k < m.count) (q : h ≡ hash_at w m.base k) (t : Text) (e : t ≡ get_or (texts s w m) k []) where
  hash_is : h ≡ hash_of t
  unfolding texts
  hash_is = q ∙ g.hashes k l ∙ ap hash_of (sym (e ∙ texts-at s w m.base m.count k l))

  whole_is : (n : ℕ) → n ≡ length t → whole_of h n ≡ text_form t
  unfolding whole_of text_form
  whole_is n z = cc hash_is

  pub named_some : (wd at x : ℕ) → x ≡ le_at wd w at → k ≡ x → (n : ℕ) (v f r : Form) → n ≡ length t → v ≡ whole_of h n → f.hash < 4294967296 → f.power < 4294967296 → r ≡ join_of f v → From f (word_at wd (texts s w m) w at) r
  named_some wd at x j u n v f r z o a c b = from_as (word_is wd s w m at x k j u t e) (from_join f t r a c (b ∙ ap (join_of f) (o ∙ whole_is n z)))

pub named-beyond : (s w : List ℕ) (m : Map) (wd at x k : ℕ) (f : Form) → x ≡ le_at wd w at → k ≡ x → m.count ≤ k → From f (word_at wd (texts s w m) w at) f
named-beyond s w m wd at x k f j u l = from_as (word_is wd s w m at x k j u [] (text_beyond s w m k l)) (from_none f)

pub ruleset naming = (rules, named_some, named-beyond)
