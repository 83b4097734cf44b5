-- The loop of `drain`: what was appended, and what is left of the pile. Assumes nothing.
use mathlib.Core.Path.{◌≡◌, refl, sym, ap, ◌∙◌, subst}
use mathlib.Core.Bool.{Bool}
use mathlib.Core.List.{List, [], ◌∷◌, map}
use Prim.Native.Nat.{ℕ, suc, ◌-◌, ◌<◌, ◌≤◌}
use native.Mathlib.Omega.{arith}
use borrow.Author.Rules.{rules}
use lib.ListN.{length}
use Rattle.parse_tree.specs.Plain.Tree.{Nonterminal, Item, item}
use Rattle.parse_tree.specs.Plain.References.{texts_of_each}
use Rattle.parse_tree.specs.Plain.WriteTape.{bytes_of_each}
use Rattle.parse_tree.specs.Working.Refusals.{refusal_over}
use Rattle.parse_tree.specs.declared.refusal.Refusal.{Refusal}
use Rattle.passes.specs.Outcome.{Tree, Outcome, yes, no, after}
use Rattle.passes.specs.Macros.{Pending, expand_symbol, drain}
use Rattle.resolve.specs.declared.Grammar.{Grammar}
use Rattle.replacing.specs.Trees.{inner}
use Rattle.expander.specs.declared.Ground.{Ground}
use Rattle.expander.specs.Ground.{key_at, symbol_in}
use Rattle.expander.specs.Held.{down}
use Rattle.appending.specs.declared.Appended.{Appended}
use Rattle.appending.specs.Pieces.{item_piece, plainly, then_piece, Appending, Appends}
use Rattle.appending.proofs.PiecesLaws.{steady_item, appends-none, appends_then, appends_is}
use Rattle.std.specs.Prelude.{Result, Ok, Err}
use Rattle.macro_expand.specs.Expand.{ExpandsTo}
use Rattle.macro_expand.specs.Drain.{Pile, SomePile, ExpandsPushed, items_piece, DrainedBy, Drains}
use Rattle.macro_expand.proofs.PileStays.{symbol_stays, pile_stays}

-- ---- what an answer is
module _ (s : List ℕ) (g : Ground) (n lim : ℕ) (t : Grammar) where
  -- the pending symbols of the first i places, the last first
  abbrev pending : List ℕ → ℕ → List Pending
  pending w i = map (λ p. inner (symbol_in s w g p)) (down (key_at w g) i)

  -- ---- items one behind another
  module _ (ps : List ℕ) where
    -- none
    drained_none : (w : List ℕ) (v : Appended) → Appending s g n lim ps w v → Appends s g n lim ps w v (items_piece g.width.bytes []) v w
    unfolding texts_of_each bytes_of_each
    drained_none w v h = appends_is s g n lim ps w v (plainly []) v w (appends-none s g n lim ps w v h) (items_piece g.width.bytes []) refl refl refl

    -- one and then the others
    drained_then : (w : List ℕ) (v : Appended) (d : Nonterminal) (v1 : Appended) (w1 : List ℕ) (ds : List Item) (v2 : Appended) (w2 : List ℕ) → Appending s g n lim ps w v
        → Appends s g n lim ps w v (item_piece g.width.bytes (item d)) v1 w1 → Appends s g n lim ps w1 v1 (items_piece g.width.bytes ds) v2 w2
        → Appends s g n lim ps w v (items_piece g.width.bytes (item d ∷ ds)) v2 w2
    unfolding texts_of_each bytes_of_each
    drained_then w v d v1 w1 ds v2 w2 h a b =
        appends_is s g n lim ps w v (then_piece (item_piece g.width.bytes (item d)) (items_piece g.width.bytes ds)) v2 w2
        (appends_then s g n lim ps w v (item_piece g.width.bytes (item d)) v1 w1 (items_piece g.width.bytes ds) v2 w2 (steady_item g.width.bytes (item d)) h a b) (items_piece g.width.bytes (item d ∷ ds)) refl refl refl

    -- the outcome of the rest behind an item
    drained_after : (w : List ℕ) (v : Appended) (d : Nonterminal) (v1 : Appended) (w1 : List ℕ) → Appending s g n lim ps w v → Appends s g n lim ps w v (item_piece g.width.bytes (item d)) v1 w1
        → (u : Outcome (List Item)) (r : Result Appended Refusal) (w2 : List ℕ) → DrainedBy s w1 g n lim v1 ps u r w2 → DrainedBy s w g n lim v ps (after u (λ ds. yes (item d ∷ ds))) r w2
    unfolding DrainedBy
    drained_after w v d v1 w1 h a (yes ds) r w2 (v2, e, b) = (v2, e, drained_then w v d v1 w1 ds v2 w2 h a b)
    drained_after w v d v1 w1 h a (no k sp) r w2 e = e

  -- ---- the loop: i are left, whose items come behind what is appended so far
  pub record Onward (w₀ : List ℕ) (v : Appended) (w : List ℕ) (x : Appended) (i : ℕ) (ps : List ℕ) (four : Bool) (G : Tree) : Type 0 where
    pub pile : Pile s w g n lim t x ps four G
    pub keys : (j : ℕ) → j < n → key_at w g j ≡ key_at w₀ g j
    pub symbols : (p : ℕ) → symbol_in s w g p ≡ symbol_in s w₀ g p
    pub carry : (r : Result Appended Refusal) (w' : List ℕ) → DrainedBy s w g n lim x ps (drain G (pending w₀ i)) r w' → DrainedBy s w₀ g n lim v ps (drain G (pending w₀ n)) r w'

  pub record Draining (w₀ : List ℕ) (v : Appended) (w : List ℕ) (x : Appended) (i : ℕ) : Type 0 where
    pub some : SomePile s w g n lim t x
    pub upto : i ≤ n
    pub long : length w ≡ length w₀
    pub each : (ps : List ℕ) (four : Bool) (G : Tree) → Pile s w₀ g n lim t v ps four G → Onward w₀ v w x i ps four G

  pub draining_start : (w : List ℕ) (v : Appended) → SomePile s w g n lim t v → Draining w v w v n
  draining_start w v h = record {
    some = h;
    upto = omega arith;
    long = refl;
    each = λ ps four G p. record { pile = p; keys = λ j l. refl; symbols = λ q. refl; carry = λ r w' d. d };
  }

  module _ (w₀ : List ℕ) (v : Appended) (w : List ℕ) (x : Appended) (i : ℕ) (D : Draining w₀ v w x i) where
    pub draining_done : i ≤ 0 → Drains s w₀ g n lim t v (Ok x) w
    unfolding Drains DrainedBy drain down
    draining_done z ps four G p =
        let o = D.each ps four G p in
        let e : i ≡ 0 = omega arith in
        subst (λ (k : ℕ). (r : Result Appended Refusal) (w' : List ℕ) → DrainedBy s w g n lim x ps (drain G (pending w₀ k)) r w' → DrainedBy s w₀ g n lim v ps (drain G (pending w₀ n)) r w') e o.carry
        (Ok x) w (x, refl, drained_none ps w x o.pile.going)

    -- ---- one more symbol, the j-th, where j + 1 are left
    module _ (j : ℕ) (l : i ≡ suc j) where
      below : j < n
      below = omega (arith, D.upto)

      module _ (ps : List ℕ) (four : Bool) (G : Tree) (p : Pile s w₀ g n lim t v ps four G) where
        abbrev o : Onward w₀ v w x i ps four G
        o = D.each ps four G p

        abbrev y : Pending
        y = inner (symbol_in s w₀ g (key_at w₀ g j))

        same : inner (symbol_in s w g (key_at w g j)) ≡ y
        same = ap (λ (q : ℕ). inner (symbol_in s w g q)) (o.keys j below) ∙ ap inner (o.symbols (key_at w₀ g j))

        -- the outcome of the pile from its first symbol on
        first : drain G (pending w₀ i) ≡ after (expand_symbol G y) (λ d. after (drain G (pending w₀ j)) (λ ds. yes (item d ∷ ds)))
        unfolding drain down
        first = ap (λ (k : ℕ). drain G (pending w₀ k)) l

        carried : (u : Outcome Nonterminal) → expand_symbol G y ≡ u → (r : Result Appended Refusal) (w' : List ℕ) → DrainedBy s w g n lim x ps (after u (λ d. after (drain G (pending w₀ j)) (λ ds. yes (item d ∷ ds)))) r w'
            → DrainedBy s w₀ g n lim v ps (drain G (pending w₀ n)) r w'
        carried u e r w' h =
            o.carry r w' (subst (λ (z : Outcome (List Item)). DrainedBy s w g n lim x ps z r w') (sym (first ∙ ap (λ (z : Outcome Nonterminal). after z (λ d. after (drain G (pending w₀ j)) (λ ds. yes (item d ∷ ds)))) e)) h)

        told : (r : Result Appended Refusal) (w' : List ℕ) → ExpandsPushed s w g n lim t j x r w' → ExpandsTo s w g n lim x ps (expand_symbol G y) r w'
        unfolding ExpandsPushed
        told r w' h = subst (λ (z : Pending). ExpandsTo s w g n lim x ps (expand_symbol G z) r w') same (h ps four G o.pile)

        -- it is refused
        refused : (why : Refusal) (w' : List ℕ) → ExpandsPushed s w g n lim t j x (Err why) w' → DrainedBy s w₀ g n lim v ps (drain G (pending w₀ n)) (Err why) w'
        unfolding ExpandsTo DrainedBy
        refused why w' h = go (expand_symbol G y) refl (told (Err why) w' h)
          where
            go : (u : Outcome Nonterminal) → expand_symbol G y ≡ u → ExpandsTo s w g n lim x ps u (Err why) w' → DrainedBy s w₀ g n lim v ps (drain G (pending w₀ n)) (Err why) w'
            go (yes d) e (v', z, a) = absurd (other z)
              where
                other : Err why ≡ Ok v' → ⊥
                other z = cc
            go (no k sp) e z = carried (no k sp) e (Err why) w' z

        -- its item is appended
        onward : (x' : Appended) (w' : List ℕ) → ExpandsPushed s w g n lim t j x (Ok x') w' → Onward w₀ v w' x' j ps four G
        unfolding ExpandsTo
        onward x' w' h = go (expand_symbol G y) refl (told (Ok x') w' h)
          where
            go : (u : Outcome Nonterminal) → expand_symbol G y ≡ u → ExpandsTo s w g n lim x ps u (Ok x') w' → Onward w₀ v w' x' j ps four G
            go (no k sp) e z = absurd (other z)
              where
                other : Ok x' ≡ Err (refusal_over k sp) → ⊥
                other z = cc
            go (yes d) e (v', z, a) =
                let f : x' ≡ v' = cc in
                let b : Appends s g n lim ps w x (item_piece g.width.bytes (item d)) x' w' = subst (λ (q : Appended). Appends s g n lim ps w x (item_piece g.width.bytes (item d)) q w') (sym f) a in
                let k = o.pile.going in
                record {
                  pile = pile_stays s g n lim ps w x k (item_piece g.width.bytes (item d)) x' w' b t four G o.pile;
                  keys = λ m z. b.pile m z ∙ o.keys m z;
                  symbols = λ q. symbol_stays s g n lim ps w x k (item_piece g.width.bytes (item d)) x' w' b q ∙ o.symbols q;
                  carry = λ r w2 q. carried (yes d) e r w2 (drained_after ps w x d x' w' k b (drain G (pending w₀ j)) r w2 q);
                }

    -- the pile stays where an item is appended
    pile_next : (j : ℕ) (x' : Appended) (w' : List ℕ) (ps : List ℕ) (four : Bool) (G : Tree) → Pile s w g n lim t x ps four G → ExpandsPushed s w g n lim t j x (Ok x') w' → Pile s w' g n lim t x' ps four G
    unfolding ExpandsPushed ExpandsTo
    pile_next j x' w' ps four G p h = go (expand_symbol G (inner (symbol_in s w g (key_at w g j)))) (h ps four G p)
      where
        go : (u : Outcome Nonterminal) → ExpandsTo s w g n lim x ps u (Ok x') w' → Pile s w' g n lim t x' ps four G
        go (no k sp) z = absurd (cc)
        go (yes d) (v', z, a) =
            subst (λ (q : Appended). Pile s w' g n lim t q ps four G) (let f : v' ≡ x' = cc in f) (pile_stays s g n lim ps w x p.going (item_piece g.width.bytes (item d)) v' w' a t four G p)

    -- ---- as the code has it
    pub draining_same : length w ≡ length w₀
    draining_same = D.long

    pub draining_less : 0 < i → i - 1 < n
    draining_less z = omega (arith, D.upto)

    pub draining_refused : 0 < i → (r : Result Appended Refusal) (w' : List ℕ) → ExpandsPushed s w g n lim t (i - 1) x r w' → (why : Refusal) → r ≡ Err why → Drains s w₀ g n lim t v (Err why) w'
    unfolding Drains
    draining_refused z r w' h why e ps four G p = refused (i - 1) (omega arith) ps four G p why w' (subst (λ (q : Result Appended Refusal). ExpandsPushed s w g n lim t (i - 1) x q w') e h)

    pub draining_next : 0 < i → (r : Result Appended Refusal) (w' : List ℕ) → length w' ≡ length w → ExpandsPushed s w g n lim t (i - 1) x r w' → (x' : Appended) → r ≡ Ok x' → Draining w₀ v w' x' (i - 1)
    draining_next z r w' b k x' e = record {
      some = more;
      upto = omega (arith, D.upto);
      long = b ∙ D.long;
      each = λ ps four G p. onward (i - 1) (omega arith) ps four G p x' w' h;
    }
      where
        h : ExpandsPushed s w g n lim t (i - 1) x (Ok x') w'
        h = subst (λ (q : Result Appended Refusal). ExpandsPushed s w g n lim t (i - 1) x q w') e k

        P : SomePile s w g n lim t x
        P = D.some

        more : SomePile s w' g n lim t x'
        more = record { places = P.places; four = P.four; tree = P.tree; pile = pile_next (i - 1) x' w' P.places P.four P.tree P.pile h }

pub ruleset draining = (rules, draining_start, draining_done, draining_same, draining_less, draining_refused, draining_next)
