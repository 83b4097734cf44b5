-- The ways out of put_number, put_named and put_nonterminal_head. Assumes nothing.
use mathlib.Core.Path.{◌≡◌, ◌∙◌}
use mathlib.Core.Logic.{inl}
use mathlib.Core.List.{List, ◌++◌}
use Prim.Native.Nat.{ℕ, ◌+◌, ◌^◌, ◌<◌, ◌≤◌}
use native.Mathlib.Omega.{arith}
use mir.Syntax.{w64}
use mir.Val.{Fits}
use borrow.Author.Rules.{rules}
use lib.ListN.{length}
use Rattle.octets.specs.Plain.Numbers.{le}
use Rattle.octets.specs.Plain.Runs.{part}
use Rattle.texts.proofs.TableStays.{part-agree}
use Rattle.grades.specs.Annotations.{first_alternative}
use Rattle.precedence.specs.Write.{Puts}
use Rattle.precedence.specs.Level.{named_out, nonterminal_out}
use Rattle.precedence.proofs.WriteLaws.{puts_beside, puts_on, puts_append}
use Rattle.precedence.proofs.WriteWholeCode.{behind_two}

-- ---- three runs one behind another, the last of which stands below
three_put : (w w1 w2 w3 : List ℕ) (lim to : ℕ) (xs ys : List ℕ) (a e q r s : ℕ) → e ≤ to → to ≤ lim + 1 → lim + 16 ≤ length w
    → Puts w lim to xs q w1 → Puts w1 lim q ys r w2 → Puts w2 lim r (part a e w2) s w3 → Puts w lim to (xs ++ (ys ++ part a e w)) s w3
three_put w w1 w2 w3 lim to xs ys a e q r s h k l x y z =
    let u = puts_on w w1 lim to xs q x k in
    let m = x.long in
    let p2 = part-agree w1 w2 a e y.long (omega arith) (λ i n o. puts_beside w1 w2 lim q ys r y i (inl (omega arith))) in
    let p1 = part-agree w w1 a e x.long (omega arith) (λ i n o. puts_beside w w1 lim to xs q x i (inl (omega arith))) in
    let b = p2 ∙ p1 in
    puts_append w w1 lim to xs q x (ys ++ part a e w) s w3 (puts_append w1 w2 lim q ys r y (part a e w) s w3 (rw b at z))

-- ---- put_named
pub named_put : (w w1 w2 w3 : List ℕ) (wd p name lim to q r s : ℕ) → p + 11 + wd ≤ to → to ≤ lim + 1 → lim + 16 ≤ length w
    → Puts w lim to (part p (p + 9) w) q w1 → Puts w1 lim q (le wd name) r w2 → Puts w2 lim r (part (p + 9 + wd) (p + 11 + wd) w2) s w3
    → Puts w lim to (named_out wd w p name) s w3
unfolding named_out
named_put w w1 w2 w3 wd p name lim to q r s h k l x y z = three_put w w1 w2 w3 lim to (part p (p + 9) w) (le wd name) (p + 9 + wd) (p + 11 + wd) q r s h k l x y z

pub ruleset naming-put = (rules, named_put)

-- ---- put_nonterminal_head
module _ (w : List ℕ) (wd p lim to : ℕ) (h : first_alternative wd w p ≤ to) (k : to ≤ lim + 1) (l : lim + 16 ≤ length w) where
  pub arguments_before : p + 13 + wd ≤ to
  unfolding first_alternative
  arguments_before = omega arith

  pub command_inside : p + 13 + wd ≤ length w
  command_inside = omega (arith, arguments_before)

  pub command_before : p + 11 + wd ≤ to
  command_before = omega (arith, arguments_before)

  pub count_fits : length w < 2 ^ 64 → Fits w64 (p + 13)
  count_fits x = record { fits = omega (arith, arguments_before) }

  pub arguments_fit : length w < 2 ^ 64 → Fits w64 (p + 13 + wd)
  arguments_fit x = record { fits = omega (arith, arguments_before) }

  module _ (e : ℕ) (z : e ≡ first_alternative wd w p) where
    pub arguments_upto : p + 13 + wd ≤ e
    unfolding first_alternative
    arguments_upto = rw z (omega arith)

    pub arguments_end : (w1 w2 : List ℕ) (xs ys : List ℕ) (q r : ℕ) → Puts w lim to xs q w1 → Puts w1 lim q ys r w2 → e ≤ r
    arguments_end w1 w2 xs ys q r x y = behind_two w w1 w2 lim to xs ys q r e x y k (rw z h)

    pub nonterminal_head : (name many q r s : ℕ) (w1 w2 w3 : List ℕ) → Puts w lim to (named_out wd w p name) q w1 → Puts w1 lim q (le 2 many) r w2
        → Puts w2 lim r (part (p + 13 + wd) e w2) s w3 → Puts w lim to (nonterminal_out wd w p name many) s w3
    unfolding nonterminal_out
    nonterminal_head name many q r s w1 w2 w3 x y u =
        let v : Puts w2 lim r (part (p + 13 + wd) (first_alternative wd w p) w2) s w3 = rw z at u in
        three_put w w1 w2 w3 lim to (named_out wd w p name) (le 2 many) (p + 13 + wd) (first_alternative wd w p) q r s h k l x y v

pub ruleset heading_level = (rules, command_inside, command_before, count_fits, arguments_fit, nonterminal_head)

pub ruleset beginning = (rules, arguments_upto)

pub ruleset ending = (rules, arguments_end)
