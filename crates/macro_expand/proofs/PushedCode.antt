-- The ways out of `definition`, `expand_other` and `expand`, which take the item of a pushed symbol. Assumes nothing.
use mathlib.Core.Path.{◌≡◌, refl, sym, ap, ◌∙◌, subst}
use mathlib.Core.Bool.{Bool, false}
use mathlib.Core.List.{List}
use mathlib.Core.Option.{some}
use Prim.Native.Nat.{ℕ, ◌+◌, ◌*◌, ◌%◌, ◌-◌, ◌^◌, ◌<◌, ◌≤◌}
use native.Mathlib.Omega.{arith}
use mir.Syntax.{w64}
use mir.Val.{Fits}
use borrow.Author.Rules.{rules}
use lib.ListN.{length, get_or}
use Rattle.octets.specs.Plain.Numbers.{le_at}
use Rattle.parse_tree.specs.Plain.Tree.{Text, Sym, Syms, Nonterminal, repeat, macro, group, around, over}
use Rattle.parse_tree.specs.Plain.Display.{print}
use Rattle.parse_tree.specs.declared.syntax.Span.{Span}
use Rattle.texts.specs.Fields.{mark_at, cell_at}
use Rattle.passes.specs.Outcome.{Tree, Outcome, yes}
use Rattle.passes.specs.Macros.{looking, symbol_of, expand_symbol, expand_repeat_symbol, expand_lookaround_symbol, expand_expr_symbol, expand_macro_symbol}
use Rattle.resolve.specs.declared.Grammar.{Grammar}
use Rattle.resolve.specs.Items.{item_place_in}
use Rattle.replacing.specs.Trees.{renamed, renamed_all, inner}
use Rattle.expander.specs.declared.Ground.{Ground}
use Rattle.expander.specs.Ground.{size_in, top_of, key_at, symbol_in}
use Rattle.appending.specs.declared.Appended.{Appended}
use Rattle.std.specs.Prelude.{Result, Ok}
use Rattle.parse_tree.specs.declared.refusal.Refusal.{Refusal}
use Rattle.macro_expand.specs.Expand.{Popped, SomePopped, ExpandsTo, ExpandsLook, ExpandsRepeat, ExpandsExpr, IsLook, IsRepeat, IsGroup, IsMacro}
use Rattle.macro_expand.specs.Call.{Calls, SomeCall, ExpandsMacro}
use Rattle.macro_expand.specs.Drain.{OnPile, Pile, SomePile, SomeOther, Definition, SomeDefinition, IsDefinition, ExpandsPushed}
use Rattle.macro_expand.proofs.KeyCodes.{key_code, macro_there, repeat_there, group_there, look_there}
use Rattle.macro_expand.proofs.DrainLaws.{look_item, repeat_item, group_item, macro_item}
use Rattle.macro_expand.proofs.PileStands.{popped, code_there, calls, D, found, defined, stop, calling}

-- ---- definition
module _ (w : List ℕ) (g : Ground) (t : Grammar) (q : ℕ) (k₀ k c : ℕ) (a₀ : k₀ ≡ le_at g.width.bytes w (g.from + q + 9)) (a : k ≡ k₀) (b : c ≡ cell_at w g.m.base k) where
  cell_is : (i : ℕ) → Definition w g t q i → c % 2147483648 ≡ i + 1
  cell_is i d = ap (λ (x : ℕ). x % 2147483648) (b ∙ ap (cell_at w g.m.base) (a ∙ a₀)) ∙ d.cell

  pub definition_some : SomeDefinition w g t q → 1 ≤ c % 2147483648
  definition_some h = omega (arith, cell_is h.index h.definition)

  pub definition_is : (j : ℕ) → j ≡ c % 2147483648 - 1 → (r : ℕ) → r ≡ item_place_in t w j → IsDefinition w g t q r
  unfolding IsDefinition
  definition_is j f r e i d = let z : j ≡ i = omega (arith, cell_is i d, f) in e ∙ ap (item_place_in t w) z

pub ruleset defining = (rules, definition_some, definition_is)

-- ---- expand
module _ (s w : List ℕ) (g : Ground) (n lim : ℕ) (t : Grammar) (v : Appended) (j : ℕ) (P : SomePile s w g n lim t v) (l : j < n) where
  abbrev first : OnPile s w g P.places P.tree (key_at w g j)
  first = P.pile.piled j l

  pub mark_room : g.keys + 24 * j + 24 ≤ length w
  unfolding top_of
  mark_room = let h = P.pile.going in omega (arith, h.built.room, h.ground.fits, h.ground.top)

  module _ (q : ℕ) (e : q ≡ mark_at w g.keys j) where
    key_is : q ≡ key_at w g j
    unfolding key_at
    key_is = e

    pub key_inside : g.from + q < length w
    unfolding size_in
    key_inside =
        let h = P.pile.going in
        let z = h.names.inside (key_at w g j) (h.names.pushed j l) in
        omega (arith, key_is, h.ground.inside, h.ground.ordered)

    pub key_fits : length w < 2 ^ 64 → Fits w64 (g.from + q)
    key_fits h = record { fits = omega (arith, key_inside) }

    module _ (c : ℕ) (f : c ≡ get_or w (g.from + q) 0) where
      code_is : (ps : List ℕ) (four : Bool) (G : Tree) → Pile s w g n lim t v ps four G → c ≡ key_code (symbol_in s w g (key_at w g j))
      code_is ps four G p = f ∙ ap (λ (k : ℕ). get_or w (g.from + k) 0) key_is ∙ code_there s w g n lim t v j l ps four G p

      some_popped : (K : Sym → Type 0) → K (symbol_in s w g (key_at w g j)) → SomePopped K s w g n lim q v
      some_popped K k = subst (λ (x : ℕ). SomePopped K s w g n lim x v) (sym key_is) (record {
        places = P.places;
        four = false;
        left = 64;
        end = first.end;
        symbol = symbol_in s w g (key_at w g j);
        popped = popped s w g n lim t v j l P.places P.four P.tree P.pile;
        is = k;
      })

      here : c ≡ key_code (symbol_in s w g (key_at w g j))
      here = code_is P.places P.four P.tree P.pile

      -- what is told of its outcome is told of the j-th
      told : (ps : List ℕ) (G : Tree) (u : Outcome Nonterminal) (r : Result Appended Refusal) (w' : List ℕ) → expand_symbol G (inner (symbol_in s w g (key_at w g j))) ≡ u → ExpandsTo s w g n lim v ps u r w'
          → ExpandsTo s w g n lim v ps (expand_symbol G (inner (symbol_in s w g (key_at w g j)))) r w'
      told ps G u r w' e h = subst (λ (x : Outcome Nonterminal). ExpandsTo s w g n lim v ps x r w') (sym e) h

      -- ---- a macro call
      module _ (z : c ≡ 37) where
        is_macro_lem : IsMacro (symbol_in s w g (key_at w g j))
        is_macro_lem = macro_there (symbol_in s w g (key_at w g j)) first.expands (sym here ∙ z)

        pub definition_asked : SomeDefinition w g t q
        definition_asked = let (sp, m, xs, y) = is_macro_lem in subst (SomeDefinition w g t) (sym key_is) (record { index = _; definition = defined s w g n lim t v j l P.places P.four P.tree P.pile sp m xs y })

        module _ (d : ℕ) (i : IsDefinition w g t q d) where
          place_is : (ps : List ℕ) (four : Bool) (G : Tree) (p : Pile s w g n lim t v ps four G) (sp : Span) (m : Text) (xs : Syms) (y : symbol_in s w g (key_at w g j) ≡ over sp (macro m) xs)
              → d ≡ item_place_in t w (found s w g n lim t v j l ps four G p sp m xs y).index
          unfolding IsDefinition
          place_is ps four G p sp m xs y = i (found s w g n lim t v j l ps four G p sp m xs y).index (subst (λ (x : ℕ). Definition w g t x (found s w g n lim t v j l ps four G p sp m xs y).index) (sym key_is) (defined s w g n lim t v j l ps four G p sp m xs y))

          pub macro_asked : SomeCall s w g n lim q d v
          macro_asked =
              let (sp, m, xs, y) = is_macro_lem in
              let k = place_is P.places P.four P.tree P.pile sp m xs y in
              subst (λ (x : ℕ). SomeCall s w g n lim x d v) (sym key_is) (subst (λ (x : ℕ). SomeCall s w g n lim (key_at w g j) x v) (sym k) (record {
                places = P.places;
                four = false;
                left = 64;
                end = first.end;
                span = sp;
                name = m;
                arguments = xs;
                four' = P.four;
                behind = _;
                definition = _;
                calls = calling s w g n lim t v j l P.places P.four P.tree P.pile sp m xs y;
              }))

          pub macro_told : (r : Result Appended Refusal) (w' : List ℕ) → ExpandsMacro s w g n lim q d v r w' → ExpandsPushed s w g n lim t j v r w'
          unfolding ExpandsMacro ExpandsPushed
          macro_told r w' h ps four G p =
              let (sp, m, xs, y) = is_macro_lem in
              let k = place_is ps four G p sp m xs y in
              let b = calling s w g n lim t v j l ps four G p sp m xs y in
              let o = p.piled j l in
              let e = stop s w g n lim t v j l ps four G p sp m xs y in
              let F = D s w g n lim t v j l ps four G p sp m xs y in
              let x = h ps false 64 o.end sp m xs four e F (subst (λ (a : ℕ). Calls s w g n lim a d v ps false 64 o.end sp m xs four e F) (sym key_is) (subst (λ (a : ℕ). Calls s w g n lim (key_at w g j) a v ps false 64 o.end sp m xs four e F) (sym k) b)) in
              told ps G (expand_macro_symbol sp (print (over sp (macro m) xs)) (renamed_all xs) (some F)) r w'
              (ap (λ (a : Sym). expand_symbol G (inner a)) y ∙ macro_item G sp m xs F (calls s w g n lim t v j l ps four G p sp m xs y).1) x

      popped_as : (ps : List ℕ) (four : Bool) (G : Tree) (p : Pile s w g n lim t v ps four G) (z : Sym) → symbol_in s w g (key_at w g j) ≡ z → Popped s w g n lim ps false 64 q (p.piled j l).end z v
      popped_as ps four G p z e =
          subst (λ (a : ℕ). Popped s w g n lim ps false 64 a (p.piled j l).end z v) (sym key_is)
          (subst (λ (x : Sym). Popped s w g n lim ps false 64 (key_at w g j) (p.piled j l).end x v) e (popped s w g n lim t v j l ps four G p))

      -- ---- a repeat
      module _ (z : c ≡ 38) where
        is_repeat : IsRepeat (symbol_in s w g (key_at w g j))
        is_repeat = repeat_there (symbol_in s w g (key_at w g j)) first.expands (sym here ∙ z)

        pub repeat_asked : SomePopped IsRepeat s w g n lim q v
        repeat_asked = some_popped IsRepeat is_repeat

        pub repeat_told : (r : Appended) (w' : List ℕ) → ExpandsRepeat s w g n lim q v r w' → ExpandsPushed s w g n lim t j v (Ok r) w'
        unfolding ExpandsRepeat ExpandsPushed ExpandsTo
        repeat_told r w' h ps four G p =
            let (sp, o, x, e) = is_repeat in
            told ps G (yes (expand_repeat_symbol sp (print (around sp (repeat o) x)) o (renamed x))) (Ok r) w' (ap (λ (a : Sym). expand_symbol G (inner a)) e ∙ repeat_item G sp o x)
            (r, refl, h ps false 64 (p.piled j l).end sp o x (popped_as ps four G p (around sp (repeat o) x) e))

      -- ---- a group
      module _ (z : c ≡ 41) where
        is_group : IsGroup (symbol_in s w g (key_at w g j))
        is_group = group_there (symbol_in s w g (key_at w g j)) first.expands (sym here ∙ z)

        pub group_asked : SomePopped IsGroup s w g n lim q v
        group_asked = some_popped IsGroup is_group

        pub group_told : (r : Result Appended Refusal) (w' : List ℕ) → ExpandsExpr s w g n lim q v r w' → ExpandsPushed s w g n lim t j v r w'
        unfolding ExpandsExpr ExpandsPushed
        group_told r w' h ps four G p =
            let (sp, xs, e) = is_group in
            told ps G (expand_expr_symbol sp (print (over sp group xs)) (renamed_all xs)) r w' (ap (λ (a : Sym). expand_symbol G (inner a)) e ∙ group_item G sp xs)
            (h ps false 64 (p.piled j l).end sp xs (popped_as ps four G p (over sp group xs) e))

      -- ---- `@L` or `@R`
      module _ (a : c ≡ 37 → ⊥) (b : c ≡ 38 → ⊥) (d : c ≡ 41 → ⊥) where
        is_look : IsLook (symbol_in s w g (key_at w g j))
        is_look = look_there (symbol_in s w g (key_at w g j)) first.expands (λ z. a (here ∙ z)) (λ z. b (here ∙ z)) (λ z. d (here ∙ z))

        pub look_asked : SomePopped IsLook s w g n lim q v
        look_asked = some_popped IsLook is_look

        pub look_told : (r : Appended) (w' : List ℕ) → ExpandsLook s w g n lim q v r w' → ExpandsPushed s w g n lim t j v (Ok r) w'
        unfolding ExpandsLook ExpandsPushed ExpandsTo
        look_told r w' h ps four G p =
            let (sp, k, e) = is_look in
            told ps G (yes (expand_lookaround_symbol sp (print (symbol_of (looking sp k))) k)) (Ok r) w' (ap (λ (x : Sym). expand_symbol G (inner x)) e ∙ look_item G sp k)
            (r, refl, h ps false 64 (p.piled j l).end sp k (popped_as ps four G p (symbol_of (looking sp k)) e))

pub other_asked : (s w : List ℕ) (g : Ground) (n lim : ℕ) (t : Grammar) (v : Appended) (j : ℕ) → SomePile s w g n lim t v → j < n → (q : ℕ) → q ≡ mark_at w g.keys j → (c : ℕ) → c ≡ get_or w (g.from + q) 0
    → (c ≡ 37 → ⊥) → SomeOther s w g n lim t v j q c
unfolding key_at
other_asked s w g n lim t v j P l q e c f a = record { pile = P; less = l; place = e; code = f; other = a }

pub ruleset expanding = (rules, mark_room, key_inside, key_fits, definition_asked, macro_asked, macro_told, other_asked)

-- ---- expand_other
module _ (s w : List ℕ) (g : Ground) (n lim : ℕ) (t : Grammar) (v : Appended) (j q c : ℕ) (h : SomeOther s w g n lim t v j q c) where
  marked : q ≡ mark_at w g.keys j
  unfolding key_at
  marked = h.place

  pub other_repeat : c ≡ 38 → SomePopped IsRepeat s w g n lim q v
  other_repeat z = repeat_asked s w g n lim t v j h.pile h.less q marked c h.code z

  pub other_repeat_told : c ≡ 38 → (r : Appended) (w' : List ℕ) → ExpandsRepeat s w g n lim q v r w' → ExpandsPushed s w g n lim t j v (Ok r) w'
  other_repeat_told z r w' k = repeat_told s w g n lim t v j h.pile h.less q marked c h.code z r w' k

  pub other_group : c ≡ 41 → SomePopped IsGroup s w g n lim q v
  other_group z = group_asked s w g n lim t v j h.pile h.less q marked c h.code z

  pub other_group_told : c ≡ 41 → (r : Result Appended Refusal) (w' : List ℕ) → ExpandsExpr s w g n lim q v r w' → ExpandsPushed s w g n lim t j v r w'
  other_group_told z r w' k = group_told s w g n lim t v j h.pile h.less q marked c h.code z r w' k

  pub other_look : (c ≡ 38 → ⊥) → (c ≡ 41 → ⊥) → SomePopped IsLook s w g n lim q v
  other_look b d = look_asked s w g n lim t v j h.pile h.less q marked c h.code h.other b d

  pub other_look_told : (c ≡ 38 → ⊥) → (c ≡ 41 → ⊥) → (r : Appended) (w' : List ℕ) → ExpandsLook s w g n lim q v r w' → ExpandsPushed s w g n lim t j v (Ok r) w'
  other_look_told b d r w' k = look_told s w g n lim t v j h.pile h.less q marked c h.code h.other b d r w' k

pub ruleset others = (rules, other_repeat, other_repeat_told, other_group, other_group_told, other_look, other_look_told)
