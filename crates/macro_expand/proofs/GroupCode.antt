-- The ways out of the functions that expand a group. Assumes nothing.
use mathlib.Core.Path.{◌≡◌, refl, sym, ap, ◌∙◌, subst}
use mathlib.Core.Bool.{Bool, true, false, cond}
use mathlib.Core.List.{List, [], ◌∷◌, ◌++◌}
use Prim.Native.Nat.{ℕ, ◌+◌, ◌-◌, ◌≤◌}
use native.Mathlib.Omega.{arith}
use mir.Syntax.{w64}
use mir.Val.{Fits}
use borrow.Author.Rules.{rules}
use borrow.Author.Tests.{lt-ltb, eq-eqb, ne_eqb}
use lib.ListN.{length}
use Rattle.octets.specs.Working.Choice.{pick}
use Rattle.octets.specs.Plain.Numbers.{le_at}
use Rattle.parse_tree.specs.Plain.Tree.{Text, Sym, Syms, group, over, count, user, Nonterminal, item}
use Rattle.parse_tree.specs.Plain.Texts.{number, with_new}
use Rattle.parse_tree.specs.Plain.References.{syms_texts, action_texts, item_texts}
use Rattle.parse_tree.specs.Plain.Display.{print}
use Rattle.parse_tree.specs.Working.Nodes.{span_in}
use Rattle.parse_tree.specs.Working.Encode.{action_text, syms_bytes, item_bytes}
use Rattle.parse_tree.specs.Working.Refusals.{refusal_over}
use Rattle.parse_tree.specs.declared.refusal.Refusal.{Refusal}
use Rattle.parse_tree.specs.declared.syntax.Span.{Span}
use Rattle.passes.specs.Outcome.{Outcome, yes, no, simple}
use Rattle.passes.specs.Macros.{made, has_name, chosen, group_action}
use Rattle.replacing.specs.Trees.{renamed_all}
use Rattle.expander.specs.declared.Ground.{Ground}
use Rattle.expander.specs.Names.{named_in}
use Rattle.appending.specs.declared.Appended.{Appended}
use Rattle.appending.specs.declared.symbols.Copied.{Copied}
use Rattle.appending.specs.Built.{built_text}
use Rattle.appending.specs.Pieces.{symbols_piece, item_piece, then_piece, Appends}
use Rattle.appending.specs.Symbols.{Referring, SomeReferring, PutsSymbols}
use Rattle.appending.proofs.PiecesLaws.{appends_then, appends_is}
use Rattle.appending.proofs.SymbolsStays.{referring_stays}
use Rattle.std.specs.Prelude.{Ok, Err}
use Rattle.macro_expand.specs.declared.begin.Begun.{Begun}
use Rattle.std.specs.Prelude.{Option, Some, None}
use Rattle.macro_expand.specs.Expand.{Popped, SomePopped, IsAny, IsGroup, head_bytes, head_piece, Begins, ExpandsTo, ExpandsExpr}
use Rattle.macro_expand.specs.NormUtil.{SomeDirect, Analyzes}
use Rattle.macro_expand.specs.Group.{group_text, SomeGroup, PutsGroup}
use Rattle.macro_expand.proofs.PoppedLaws.{popped_any}
use Rattle.macro_expand.proofs.ItemPieces.{steady_head}
use Rattle.macro_expand.proofs.ItemTrees.{one_bytes, one_texts, one_fits}
use Rattle.macro_expand.proofs.GroupTrees.{renamed_count, renamed_named, group_action_lem, group_many, group_few, group_span, group_stand, group_referring, group_fits, group_room}

-- ---- group_action
module _ (c k : ℕ) where
  pub action_one : c ≡ 0 → k ≡ 1 → 7 ≡ group_text c k
  unfolding group_text pick
  action_one a b = cc (eq-eqb c 0 a, eq-eqb k 1 b)

  pub action_many : c ≡ 0 → (k ≡ 1 → ⊥) → 8 ≡ group_text c k
  unfolding group_text pick
  action_many a b = cc (eq-eqb c 0 a, ne_eqb k 1 b)

  pub action_chosen : c ≡ 1 → 7 ≡ group_text c k
  unfolding group_text pick
  action_chosen b = cc (ne_eqb c 0 (λ a. omega (arith, a, b)), eq-eqb c 1 b)

  pub action_all : (c ≡ 0 → ⊥) → (c ≡ 1 → ⊥) → 8 ≡ group_text c k
  unfolding group_text pick
  action_all a b = cc (ne_eqb c 0 a, ne_eqb c 1 b)

pub ruleset acting = (rules, action_one, action_many, action_chosen, action_all)

-- ---- a group that was taken off the pile
record Inner (s w : List ℕ) (g : Ground) (n lim q : ℕ) (v : Appended) : Type 0 where
  pub places : List ℕ
  pub four : Bool
  pub left : ℕ
  pub end : ℕ
  pub span : Span
  pub symbols : Syms
  pub popped : Popped s w g n lim places four left q end (over span group symbols) v

inner : (s w : List ℕ) (g : Ground) (n lim q : ℕ) (v : Appended) → SomePopped IsGroup s w g n lim q v → Inner s w g n lim q v
inner s w g n lim q v K =
    let (sp, xs, z) = K.is in
    record {
      places = K.places;
      four = K.four;
      left = K.left;
      end = K.end;
      span = sp;
      symbols = xs;
      popped = subst (λ (y : Sym). Popped s w g n lim K.places K.four K.left q K.end y v) z K.popped;
    }

-- ---- the item as a piece
module _ (wd : ℕ) (sp : Span) (key : Text) (i : ℕ) (xs : Syms) where
  piece_bytes : (ts : List Text) → item_bytes wd ts (item (made sp key true (simple sp (user (built_text i)) (renamed_all xs) ∷ [])))
      ≡ head_bytes wd sp (number ts key) 1 1 1 (number ts (built_text i)) (count xs) ++ syms_bytes wd ts (renamed_all xs)
  unfolding action_text
  piece_bytes ts =
      one_bytes wd ts sp key true (user (built_text i)) (renamed_all xs) ∙ ap (λ (k : ℕ). head_bytes wd sp (number ts key) 1 1 1 (number ts (built_text i)) k ++ syms_bytes wd ts (renamed_all xs)) (renamed_count xs)

  piece_texts : item_texts (item (made sp key true (simple sp (user (built_text i)) (renamed_all xs) ∷ []))) ≡ (key ∷ built_text i ∷ []) ++ syms_texts (renamed_all xs)
  unfolding action_texts
  piece_texts = one_texts sp key true (user (built_text i)) (renamed_all xs)

-- ---- what analyze_expr says
named_none : (b : Bool) (c : ℕ) → cond b None (Some c) ≡ None → b ≡ true
named_none true c e = refl
named_none false c e = cc

named_some : (b : Bool) (c u : ℕ) → cond b None (Some c) ≡ Some u → (b ≡ false) × (u ≡ c)
named_some true c u e = cc
named_some false c u e = (refl, cc)

-- ---- put_group
module _ (s w : List ℕ) (g : Ground) (n lim q : ℕ) (v : Appended) (i m : ℕ) (S : SomeGroup s w g n lim q v m) where
  abbrev I : Inner s w g n lim q v
  I = inner s w g n lim q v S.popped

  pub group_any : SomePopped IsAny s w g n lim q v
  group_any = popped_any IsGroup s w g n lim q v S.popped

  pub eleven_fits : Fits w64 (q + 11)
  eleven_fits = record { fits = omega (arith, group_room s w g n lim I.places I.four I.left q I.end I.span I.symbols v I.popped, I.popped.going.ground.inside, I.popped.going.ground.short) }

  module _ (x : Begun) (w1 : List ℕ) (B : Begins s w g n lim q v 1 1 i m x w1) where
    module _ (ps : List ℕ) (four : Bool) (left e : ℕ) (sp : Span) (xs : Syms) (R : Popped s w g n lim ps four left q e (over sp group xs) v) where
      abbrev key : Text
      key = print (over sp group xs)

      many_is : m ≡ count xs
      many_is = S.many ∙ group_many s w g n lim ps four left q e sp xs v R

      begun : Appends s g n lim ps w v (head_piece g.width.bytes sp key 1 1 (built_text i) (count xs)) x.out w1
      unfolding Begins
      begun = subst (λ (k : ℕ). Appends s g n lim ps w v (head_piece g.width.bytes sp (print (over sp group xs)) 1 1 (built_text i) k) x.out w1) many_is (B ps four left e (over sp group xs) R).1

      there : Referring s w1 g ps four (left - 1) (q + 11) e xs
      there =
          referring_stays s g n lim ps w v R.going (head_piece g.width.bytes sp key 1 1 (built_text i) (count xs)) x.out w1 begun four (left - 1) (q + 11) e xs
          (group_referring s w g n lim ps four left q e sp xs v R)

    pub group_there : (k : ℕ) → k ≡ m → SomeReferring s w1 g n lim (q + 11) k x.out
    group_there k z = record {
      places = I.places;
      four = I.four;
      left = I.left - 1;
      end = I.end;
      symbols = I.symbols;
      going = (begun I.places I.four I.left I.end I.span I.symbols I.popped).going;
      many = sym (z ∙ many_is I.places I.four I.left I.end I.span I.symbols I.popped);
      referring = there I.places I.four I.left I.end I.span I.symbols I.popped;
    }

    pub group_put : (k : ℕ) → k ≡ m → (c : Copied) (w2 : List ℕ) → PutsSymbols s w1 g n lim (q + 11) k x.out c w2 → PutsGroup s w g n lim q v i c.out w2
    unfolding PutsGroup PutsSymbols
    group_put k z c w2 P ps four left e sp xs R =
        let key = print (over sp group xs) in
        let H = head_piece g.width.bytes sp (print (over sp group xs)) 1 1 (built_text i) (count xs) in
        let X = symbols_piece g.width.bytes xs in
        let h = begun ps four left e sp xs R in
        let d = (P ps four (left - 1) e xs (sym (z ∙ many_is ps four left e sp xs R)) h.going (there ps four left e sp xs R)).1 in
        let a = appends_then s g n lim ps w v H x.out w1 X c.out w2 (steady_head g.width.bytes sp (print (over sp group xs)) 1 1 (built_text i) (count xs)) R.going h d in
        appends_is s g n lim ps w v (then_piece H X) c.out w2 a (item_piece g.width.bytes (item (made sp key true (simple sp (user (built_text i)) (renamed_all xs) ∷ []))))
        (ap (with_new (named_in s w g v.count)) (piece_texts g.width.bytes sp key i xs)) (piece_bytes g.width.bytes sp key i xs (named_in s w2 g c.out.count))
        (one_fits sp key true (user (built_text i)) (renamed_all xs) (lt-ltb (count (renamed_all xs)) 65536 (omega (arith, renamed_count xs, group_few s w g n lim ps four left q e sp xs v R))) ∙ group_fits s w g n lim ps four left q e sp xs v R)

pub ruleset grouping = (rules, group_any, eleven_fits, group_there, group_put)

-- ---- expand_expr_symbol
module _ (s w : List ℕ) (g : Ground) (n lim q : ℕ) (v : Appended) (K : SomePopped IsGroup s w g n lim q v) where
  abbrev J : Inner s w g n lim q v
  J = inner s w g n lim q v K

  room : g.from + q + 11 ≤ length w
  room = omega (arith, group_room s w g n lim J.places J.four J.left q J.end J.span J.symbols v J.popped, J.popped.going.ground.inside)

  pub expr_inside : g.from + q + 9 + 2 ≤ length w
  expr_inside = omega (arith, room)

  pub expr_span : g.from + q + 9 ≤ length w
  expr_span = omega (arith, room)

  pub expr_fits : Fits w64 (q + 11)
  expr_fits = record { fits = omega (arith, room, J.popped.going.ground.short) }

  pub expr_at : Fits w64 (g.from + q)
  expr_at = record { fits = omega (arith, room, J.popped.going.ground.short) }

  module _ (m k : ℕ) (a : m ≡ le_at 2 w (g.from + q + 9)) (b : k ≡ m) where
    many : (ps : List ℕ) (four : Bool) (left e : ℕ) (sp : Span) (xs : Syms) → Popped s w g n lim ps four left q e (over sp group xs) v → count xs ≡ k
    many ps four left e sp xs R = sym (b ∙ a ∙ group_many s w g n lim ps four left q e sp xs v R)

    pub expr_direct : SomeDirect s w g (q + 11) k
    expr_direct = record {
      four = J.four;
      left = J.left - 1;
      end = J.end;
      symbols = J.symbols;
      ground = J.popped.going.ground;
      many = many J.places J.four J.left J.end J.span J.symbols J.popped;
      stand = group_stand s w g n lim J.places J.four J.left q J.end J.span J.symbols v J.popped;
      inside = J.popped.inside;
      behind = J.popped.going.behind;
    }

    module _ (x : Option ℕ) (h : Analyzes s w g (q + 11) k x) where
      analyzed : (ps : List ℕ) (four : Bool) (left e : ℕ) (sp : Span) (xs : Syms) → Popped s w g n lim ps four left q e (over sp group xs) v → x ≡ cond (has_name xs) None (Some (chosen xs))
      unfolding Analyzes
      analyzed ps four left e sp xs R = h four (left - 1) e xs (many ps four left e sp xs R) (group_stand s w g n lim ps four left q e sp xs v R) R.inside

      -- "Group without a direct name symbol? 19"
      pub expr_refused : x ≡ None → (why : Refusal) → why ≡ refusal_over 19 (span_in w (g.from + q + 1)) → ExpandsExpr s w g n lim q v (Err why) w
      unfolding ExpandsExpr ExpandsTo
      expr_refused t why f ps four left e sp xs R =
          let z : has_name (renamed_all xs) ≡ true = renamed_named xs ∙ named_none (has_name xs) (chosen xs) (sym (analyzed ps four left e sp xs R) ∙ t) in
          let y : span_in w (g.from + q + 1) ≡ sp = group_span s w g n lim ps four left q e sp xs v R in
          subst (λ (u : Outcome Nonterminal). ExpandsTo s w g n lim v ps u (Err why) w) (sym (ap (λ (c : Bool). cond c (no 19 sp) (yes (made sp (print (over sp group xs)) true (simple sp (group_action (renamed_all xs)) (renamed_all xs) ∷ [])))) z))
          (ap Err (f ∙ ap (refusal_over 19) y))

      module _ (u : ℕ) (t : x ≡ Some u) (i : ℕ) (f : i ≡ group_text u k) where
        pub expr_some : SomeGroup s w g n lim q v m
        expr_some = record { popped = K; many = a }

        pub expr_done : (r : Appended) (w' : List ℕ) → PutsGroup s w g n lim q v i r w' → ExpandsExpr s w g n lim q v (Ok r) w'
        unfolding ExpandsExpr ExpandsTo PutsGroup
        expr_done r w' P ps four left e sp xs R =
            let (o, d) = named_some (has_name xs) (chosen xs) u (sym (analyzed ps four left e sp xs R) ∙ t) in
            let z : has_name (renamed_all xs) ≡ false = renamed_named xs ∙ o in
            let y : group_action (renamed_all xs) ≡ user (built_text i) = group_action_lem xs ∙ ap (λ (j : ℕ). user (built_text j)) (sym (f ∙ ap (λ (j : ℕ). group_text j k) d ∙ ap (group_text (chosen xs)) (sym (many ps four left e sp xs R)))) in
            subst (λ (u : Outcome Nonterminal). ExpandsTo s w g n lim v ps u (Ok r) w')
            (sym (ap (λ (b : Bool). cond b (no 19 sp) (yes (made sp (print (over sp group xs)) true (simple sp (group_action (renamed_all xs)) (renamed_all xs) ∷ [])))) z
            ∙ ap (λ (act : _). yes (made sp (print (over sp group xs)) true (simple sp act (renamed_all xs) ∷ []))) y))
            (r, refl, P ps four left e sp xs R)

pub ruleset expressing = (rules, expr_inside, expr_span, expr_fits, expr_at, expr_direct, expr_refused, expr_some, expr_done)
