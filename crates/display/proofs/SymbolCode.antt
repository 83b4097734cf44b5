-- A symbol printed to a sink: what print_symbol asks of the functions that it calls, and its way out. Assumes nothing.
use mathlib.Core.Path.{◌≡◌, sym, ap, ◌∙◌}
use mathlib.Core.Bool.{Bool}
use mathlib.Core.List.{List, [], ◌++◌}
use Prim.Native.Nat.{ℕ, ◌+◌, ◌-◌, ◌*◌, ◌<◌}
use native.Mathlib.Omega.{arith}
use borrow.Author.Rules.{rules}
use lib.ListN.{get_or}
use Rattle.parse_tree.specs.Plain.Tree.{Text, Sym, count}
use Rattle.parse_tree.specs.Plain.Display.{shown_all, print}
use Rattle.parse_tree.specs.Working.Nodes.{long_of}
use Rattle.parse_tree.specs.Working.Nested.{inside_by}
use Rattle.texts.specs.declared.Map.{Map}
use Rattle.texts.specs.Table.{texts}
use Rattle.laws.specs.Flat.{children}
use Rattle.display.specs.Standing.{SymStands, SymsStand, SomeSym, SomeSyms}
use Rattle.display.specs.Follow.{before_by, behind_by, between_by}
use Rattle.display.specs.Sink.{all_of, Taken, PrintsSymbol, PrintsList}
use Rattle.display.proofs.TakenLaws.{taken_then, taken_as}
use Rattle.display.proofs.FollowCode.{some_room, some_within, some_high, some_deep, some_fits}
use Rattle.display.proofs.StandsLaws.{before_text, between_text, behind_text, print-whole, standing}

module _ (s w : List ℕ) (m : Map) (wd left p : ℕ) (here : SomeSym s w m wd left p) where
  -- the nesting left falls
  pub symbol_falls : (t : ℕ) → 2 * left ≡ t → 2 * (left - 1) + 1 < t
  symbol_falls t e = omega (arith, some_deep s w m wd left p here)

  module _ (c l n : ℕ) (read : c ≡ get_or w p 0) (long : l ≡ long_of wd c) (held : n ≡ inside_by wd w p c) where
    place : p + l ≡ p + long_of wd (get_or w p 0)
    place = ap (λ (z : ℕ). p + z) (long ∙ ap (long_of wd) read)

    within : (four : Bool) (e : ℕ) (y : Sym) → SymStands s w m wd four left p e y → SymsStand s w m wd four (left - 1) (p + l) e (children y)
    within four e y h = let z = place in rw z (standing s w m wd four left p e y h).inside

    counted : (four : Bool) (e : ℕ) (y : Sym) → SymStands s w m wd four left p e y → count (children y) ≡ n
    counted four e y h = sym (held ∙ ap (inside_by wd w p) read ∙ (standing s w m wd four left p e y h).reads.held)

    pub symbol_inside : SomeSyms s w m wd n (left - 1) (p + l)
    symbol_inside = record {
      four = here.four;
      end = here.end;
      symbols = children here.symbol;
      many = counted here.four here.end here.symbol here.stands;
      stand = within here.four here.end here.symbol here.stands;
    }

    module _ {A : Type 0} (more : A → ℕ → A) (f b : A) (before-b : Taken more f (before_by wd (texts s w m) w p c) b) (to : ℕ) (q : A)
        (printed : PrintsList more s w m wd n (left - 1) (p + l) c b to q) (g : A) (behind-g : Taken more q (behind_by w p c) g) where
      pub symbol_done : PrintsSymbol more s w m wd left p f to g
      symbol_done = record { each = λ four e y st. go four e y st }
        where
          go : (four : Bool) (e : ℕ) (y : Sym) → SymStands s w m wd four left p e y → (to ≡ e) × (g ≡ all_of more f (print y))
          go four e y st =
              let o = (standing s w m wd four left p e y st).reads in
              let u = printed.each four e (children y) (counted four e y st) (within four e y st) in
              let between_is : between_by c 1 ≡ between_text y = ap (λ (v : ℕ). between_by v 1) read ∙ o.between 0 in
              let mid : Taken more b (shown_all (children y) (between_text y) []) q =
              record { is = u.1 ∙ ap (λ (v : Text). all_of more b (shown_all (children y) v [])) between_is } in
              let front : Taken more f (before_text y) b = taken_as (ap (before_by wd (texts s w m) w p) read ∙ o.before) before-b in
              let rear : Taken more q (behind_text y) g = taken_as (ap (behind_by w p) read ∙ o.behind) behind-g in
              let all : Taken more f (before_text y ++ (shown_all (children y) (between_text y) [] ++ behind_text y)) g = taken_then front (taken_then mid rear) in
              (u.0, all.is ∙ ap (all_of more f) (sym (print-whole y)))

pub ruleset printing = (rules, some_room, some_within, some_high, some_deep, some_fits, symbol_falls, symbol_inside, symbol_done)
