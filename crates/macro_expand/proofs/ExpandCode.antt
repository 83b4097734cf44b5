-- Laws of `macro_expand_symbol` in code: a parameter looked up, a command copied, what is asked behind it. Assumes nothing.
use mathlib.Core.Path.{◌≡◌, sym, ◌∙◌}
use mathlib.Core.List.{List}
use Prim.Native.Nat.{ℕ, ◌+◌, ◌-◌, ◌*◌, ◌≤◌, ◌<◌}
use native.Mathlib.Omega.{arith}
use mir.Syntax.{w8}
use mir.Val as Bound
use borrow.Author.Rules.{rules}
use borrow.Author.Tests.{eq-eqb, ne_eqb}
use lib.ListN.{length, get_or}
use Rattle.octets.specs.Working.Choice.{pick}
use Rattle.octets.specs.Plain.Numbers.{le_at}
use Rattle.parse_tree.specs.Working.Nodes.{long_of}
use Rattle.parse_tree.specs.Working.Nested.{inside_at}
use Rattle.std.specs.Prelude.{Option as Maybe, Some, None}
use Rattle.laws.specs.Flat.{children}
use Rattle.expander.specs.declared.Ground.{Ground}
use Rattle.appending.specs.declared.Appended.{Appended}
use Rattle.appending.specs.declared.symbols.Copied.{Copied}
use Rattle.appending.specs.declared.symbols.Coming.{Coming}
use Rattle.appending.specs.Symbols.{PutsCommand}
use Rattle.macro_expand.specs.declared.arguments.Call.{Call}
use Rattle.macro_expand.specs.Arguments.{ReadableCall, argument_for}
use Rattle.macro_expand.specs.PutIn.{SomeFramed, AnyArgument, PutsArgument, parameter_at, SomeInside, SomeInsides, PutsIn, PutsInAll, Opens}
use Rattle.macro_expand.proofs.FrameLaws.{frame_readable}
use Rattle.macro_expand.proofs.ExpandSymbol.{symbol_deep, symbol_long, symbol_upto, parameter_any, parameter_put, inside-frame, inside-many, inside-within, inside-placed, inside-whole}

-- ---- parameter
module _ (g : Ground) (c : Call) (w : List ℕ) (p : ℕ) where
  pub parameter_named : get_or w p 0 ≡ 36 → (k : ℕ) → k ≡ le_at g.width.bytes w (p + 9) → (r : Maybe ℕ) → r ≡ argument_for g c w k → r ≡ parameter_at g c w p
  unfolding parameter_at pick
  parameter_named e k i r j = cc (eq-eqb (get_or w p 0) 36 e)

  pub parameter_not : (get_or w p 0 ≡ 36 → ⊥) → None ≡ parameter_at g c w p
  unfolding parameter_at pick
  parameter_not e = cc (ne_eqb (get_or w p 0) 36 e)

pub ruleset parametric = (rules, parameter_named, parameter_not)

-- ---- the code
module _ (s w : List ℕ) (g : Ground) (n lim : ℕ) (c : Call) (left : ℕ) (x : Copied) (K : SomeFramed s w g n lim c x.out) (I : SomeInside s w g left x) where
  pub one_readable : ReadableCall g c w
  one_readable = frame_readable s w g n lim c x.out K.places K.names K.args K.framed

  long : x.at + 9 ≤ I.end
  long = symbol_long s w g n lim c left x K.places K.names K.args I.four I.end I.symbol K.framed I.within I.placed

  pub one_behind : x.at + (10 + g.width.bytes) ≤ length w
  one_behind = omega (arith, long, g.width.wide, I.placed.behind)

  pub one_here : x.at < length w
  one_here = omega (arith, long, I.placed.behind)

  pub one_far : 0 + x.at + 17 ≤ length w
  one_far = omega (arith, long, I.placed.behind)

  pub one_span : x.at + 1 + 8 ≤ length w
  one_span = omega (arith, long, I.placed.behind)

  pub one_inside : lim ≤ length w
  one_inside = K.framed.going.inside

  pub one_deep : 1 ≤ left
  one_deep = symbol_deep s w g n lim c left x K.places K.names K.args I.four I.end I.symbol K.framed I.within I.placed

  pub one_upto : 0 + x.at + long_of g.width.bytes (get_or w x.at 0) ≤ x.out.to
  one_upto = omega (arith, symbol_upto s w g n lim c left x K.places K.names K.args I.four I.end I.symbol K.framed I.within I.placed)

  module _ (q : ℕ) (h : Some q ≡ parameter_at g c w x.at) (b : (j : ℕ) → Bound.Fits w8 (get_or w j 0)) (span : ℕ) (j : span ≡ le_at 8 w (x.at + 1)) where
    pub one_argument : AnyArgument s w g n lim q span x.out
    one_argument = parameter_any s w g n lim c left x K.places K.names K.args I.four I.end I.symbol K.framed I.within I.placed q (sym h) span j b

    pub one_parameter : (v : Appended) (w' : List ℕ) → PutsArgument s w g n lim q span left x.out v w' → PutsIn s w g n lim c left x (record { at = x.at + (9 + g.width.bytes); out = v }) w'
    unfolding PutsIn
    one_parameter v w' U ps names args four e y F W P = parameter_put s w g n lim c left x ps names args four e y F W P q (sym h) span j b v w' U

  pub one_found : (f : Maybe ℕ) → f ≡ parameter_at g c w x.at → (q : ℕ) → f ≡ Some q → Some q ≡ parameter_at g c w x.at
  one_found f i q h = sym h ∙ i

  pub one_none : (f : Maybe ℕ) → f ≡ parameter_at g c w x.at → f ≡ None → None ≡ parameter_at g c w x.at
  one_none f i h = sym h ∙ i

  module _ (h : None ≡ parameter_at g c w x.at) (k : ℕ) (j : k ≡ inside_at g.width.bytes w x.at) (r : Copied) (w1 : List ℕ) (H : PutsCommand w 0 g.width.bytes lim x (get_or w x.at 0) r w1) where
    pub one_opens : Opens s w g n lim c left x (record { many = k; run = r }) w1
    unfolding PutsIn
    one_opens = record {
      deep = one_deep;
      frame = record {
        places = K.places;
        names = K.names;
        args = K.args;
        framed = inside-frame s w g n lim c left x K.places K.names K.args I.four I.end I.symbol K.framed I.within I.placed (sym h) k j r w1 H;
      };
      insides = record {
        four = I.four;
        end = I.end;
        symbols = children I.symbol;
        many = inside-many s w g n lim c left x K.places K.names K.args I.four I.end I.symbol K.framed I.within I.placed (sym h) k j r w1 H;
        within = inside-within s w g n lim c left x K.places K.names K.args I.four I.end I.symbol K.framed I.within I.placed (sym h) k j r w1 H;
        placed = inside-placed s w g n lim c left x K.places K.names K.args I.four I.end I.symbol K.framed I.within I.placed (sym h) k j r w1 H;
      };
      carry = λ t w2 U ps names args four e y F W P. inside-whole s w g n lim c left x ps names args four e y F W P (sym h) k j r w1 H t w2 U;
    }

-- what was opened
module _ (s w : List ℕ) (g : Ground) (n lim : ℕ) (c : Call) (left : ℕ) (x : Copied) (r : Coming) (w' : List ℕ) (O : Opens s w g n lim c left x r w') where
  pub opened_deep : 1 ≤ left
  opened_deep = O.deep

  pub opened_falls : (t : ℕ) → 2 * left ≡ t → 2 * (left - 1) + 1 < t
  opened_falls t e = omega (arith, O.deep)

  pub opened_frame : SomeFramed s w' g n lim c r.run.out
  opened_frame = O.frame

  pub opened_insides : SomeInsides s w' g (left - 1) r.many r.run
  opened_insides = O.insides

  pub opened_carry : (t : Copied) (w'' : List ℕ) → PutsInAll s w' g n lim c (left - 1) r.many r.run t w'' → PutsIn s w g n lim c left x t w''
  opened_carry t w'' U = O.carry t w'' U

pub ruleset giving_way = (rules, one_span, one_argument, one_parameter)

pub ruleset opening = (rules, one_here, one_behind, one_far, one_inside, one_upto, one_opens)

pub ruleset expanding_one = (rules, one_readable, one_behind, one_found, one_none, opened_deep, opened_falls, opened_frame, opened_insides, opened_carry)
