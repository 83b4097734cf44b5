-- The code that meets a symbol: the ways out of is_expanded and replace_symbol. Assumes nothing.
use mathlib.Core.Path.{◌≡◌, refl, sym, ap, ◌∙◌, subst}
use mathlib.Core.Bool.{Bool, true, false}
use mathlib.Core.List.{List, [], ◌∷◌, ◌++◌, append-nil}
use Prim.Native.Nat.{ℕ, ◌+◌, ◌-◌, ◌*◌, ◌^◌, ◌<◌, ◌≤◌}
use native.Mathlib.Omega.{arith}
use borrow.Author.Rules.{rules}
use mir.Val.{Fits}
use mir.Syntax.{w64}
use borrow.Author.Tests.{ne_eqb, eqb-true, eqb-false}
use lib.Dec.{eqb}
use lib.ListN.{length, get_or}
use Rattle.octets.specs.Working.Choice.{pick}
use Rattle.parse_tree.specs.Plain.Tree.{Text, Sym, count}
use Rattle.parse_tree.specs.Plain.Display.{shown_all, print}
use Rattle.parse_tree.specs.Working.Nodes.{size_of, long_of}
use Rattle.parse_tree.specs.Working.Within.{Each}
use Rattle.parse_tree.specs.Working.Encode.{syms_bytes}
use Rattle.parse_tree.specs.Working.Nested.{inside_by}
use Rattle.laws.specs.Flat.{sym_node, children}
use Rattle.laws.proofs.Flat.{node_size}
use Rattle.texts.specs.Table.{texts}
use Rattle.grades.specs.Grading.{Worded}
use Rattle.grades.proofs.WordedLaws.{table-worded}
use Rattle.replacing.specs.Slots.{Slots, note_all}
use Rattle.replacing.specs.Sound.{HasRef}
use Rattle.replacing.specs.Trees.{is_key}
use Rattle.display.specs.declared.form.Form.{Form}
use Rattle.display.specs.Follow.{before_by, behind_by, between_by}
use Rattle.display.specs.Form.{text_form, Hashed, form_from, From}
use Rattle.display.proofs.FormLaws.{from_form, from_then, from_as, table-hashed}
use Rattle.display.proofs.StandsLaws.{before_text, between_text, behind_text, print-whole, Standing, standing}
use Rattle.expander.specs.declared.Ground.{Ground}
use Rattle.expander.specs.declared.replace.Formed.{Formed}
use Rattle.expander.specs.Ground.{size_in, symbol_in, printed_at, same_at, text_in, Grounded, KeptAround}
use Rattle.expander.specs.Held.{Notes}
use Rattle.expander.specs.Meet.{inner_keys, Notable}
use Rattle.expander.specs.Replace.{expanded_code, keys_of, keys_of_all, StandsAt, StandAt, SomeSymbol, SomeSymbols, NotedAll, ReplacesOne, ReplacesAll}
use Rattle.expander.proofs.KeysLaws.{own_keys, keys_parts, keys_spread_all, Spread, sym_length, stands_code, stands_symbol, stands_print, stands_key}
use Rattle.expander.proofs.NotedKeys.{notes_have, notes_off}
use Rattle.expander.proofs.ReplaceLaws.{kept-grounded, kept-texts, kept_byte, kept-stands, noted_plain, noted_own, held-inside}

-- ---- is_expanded
module _ (c : ℕ) where
  expanded_not : (c ≡ 37 → ⊥) → (c ≡ 38 → ⊥) → (c ≡ 41 → ⊥) → (c ≡ 42 → ⊥) → (c ≡ 43 → ⊥) → false ≡ expanded_code c
  unfolding expanded_code pick
  expanded_not a b d e f = cc (ne_eqb c 37 a, ne_eqb c 38 b, ne_eqb c 41 d, ne_eqb c 42 e, ne_eqb c 43 f)

  pub expanded_below : c < 37 → false ≡ expanded_code c
  expanded_below h = expanded_not (λ z. absurd (omega arith)) (λ z. absurd (omega arith)) (λ z. absurd (omega arith)) (λ z. absurd (omega arith)) (λ z. absurd (omega arith))

  pub expanded_between : 38 < c → c < 41 → false ≡ expanded_code c
  expanded_between h k = expanded_not (λ z. absurd (omega arith)) (λ z. absurd (omega arith)) (λ z. absurd (omega arith)) (λ z. absurd (omega arith)) (λ z. absurd (omega arith))

  pub expanded_above : 43 < c → false ≡ expanded_code c
  expanded_above h = expanded_not (λ z. absurd (omega arith)) (λ z. absurd (omega arith)) (λ z. absurd (omega arith)) (λ z. absurd (omega arith)) (λ z. absurd (omega arith))

  pub expanded_first : 37 ≤ c → c ≤ 38 → true ≡ expanded_code c
  unfolding expanded_code pick
  expanded_first h k = go (eqb c 37) refl
    where
      go : (b : Bool) → eqb c 37 ≡ b → true ≡ expanded_code c
      go true e = cc
      go false e = let n = eqb-false c 37 e in let z : c ≡ 38 = omega arith in rw z refl

  pub expanded_second : 41 ≤ c → c ≤ 43 → true ≡ expanded_code c
  unfolding expanded_code pick
  expanded_second h k = go (eqb c 41) refl (eqb c 42) refl
    where
      go : (b : Bool) → eqb c 41 ≡ b → (d : Bool) → eqb c 42 ≡ d → true ≡ expanded_code c
      go true e d f = let z = eqb-true c 41 e in rw z refl
      go false e true f = let z = eqb-true c 42 f in rw z refl
      go false e false f = let n = eqb-false c 41 e in let m = eqb-false c 42 f in let z : c ≡ 43 = omega arith in rw z refl

pub ruleset expanding = (rules, expanded_below, expanded_between, expanded_above, expanded_first, expanded_second)

-- ---- replace_symbol
module _ (s w : List ℕ) (g : Ground) (G : Grounded s w g) where
  pub ground_worded : Worded s w g.m
  ground_worded = table-worded s w g.m G.table

  pub ground_hashed : Hashed s w g.m
  ground_hashed = table-hashed s w g.m G.table

module _ (s w : List ℕ) (g : Ground) (left p n : ℕ) (G : Grounded s w g) (S : SomeSymbol s w g left p n) where
  abbrev here : Standing s w g.m g.width.bytes S.four left (g.from + p) (g.from + S.end) S.symbol
  here = standing s w g.m g.width.bytes S.four left (g.from + p) (g.from + S.end) S.symbol S.stands

  pub symbol_within : g.from + p < length w
  symbol_within = here.within

  pub symbol_high : 32 ≤ get_or w (g.from + p) 0
  symbol_high = here.reads.high

  pub symbol_room : g.from + p + long_of g.width.bytes (get_or w (g.from + p) 0) ≤ length w
  symbol_room = here.room

  pub symbol_deep : 0 < left
  symbol_deep = here.deep

  pub symbol_at_lem : length w * 1 < 2 ^ 63 → Fits w64 (g.from + p)
  symbol_at_lem f = let z = symbol_within in record { fits = omega arith }

  pub symbol_fits : (l : ℕ) → l ≤ 17 → length w * 1 < 2 ^ 63 → Fits w64 (p + l)
  symbol_fits l i f = let z = symbol_within in record { fits = omega arith }

  -- the nesting left falls
  pub symbol_falls : (t : ℕ) → 2 * left ≡ t → 2 * (left - 1) + 1 < t
  symbol_falls t e = omega (arith, symbol_deep)

  module _ (c l k : ℕ) (read : c ≡ get_or w (g.from + p) 0) (long : l ≡ long_of g.width.bytes c) (held : k ≡ inside_by g.width.bytes w (g.from + p) c) where
    module _ (four : Bool) (e : ℕ) (y : Sym) (h : StandsAt s w g four left p e y) where
      abbrev it : Standing s w g.m g.width.bytes four left (g.from + p) (g.from + e) y
      it = standing s w g.m g.width.bytes four left (g.from + p) (g.from + e) y h

      place : g.from + (p + l) ≡ g.from + p + long_of g.width.bytes (get_or w (g.from + p) 0)
      place = let z : l ≡ long_of g.width.bytes (get_or w (g.from + p) 0) = long ∙ ap (long_of g.width.bytes) read in omega arith

      inner-stand : StandAt s w g four (left - 1) (p + l) e (children y)
      inner-stand = let z = place in rw z it.inside

      inner-count : count (children y) ≡ k
      inner-count = sym (held ∙ ap (inside_by g.width.bytes w (g.from + p)) read ∙ it.reads.held)

      -- its command
      size_is : size_of g.width.bytes (sym_node (texts s w g.m) y) ≡ l
      size_is = sym (long ∙ ap (long_of g.width.bytes) read ∙ it.reads.long)

      size_least : 9 ≤ l
      size_least = omega (arith, size_is, node_size g.width.bytes (texts s w g.m) y)

      end_is : p + l + length (syms_bytes g.width.bytes (texts s w g.m) (children y)) ≡ e
      end_is = omega (arith, size_is, sym_length g.width.bytes (texts s w g.m) y, h.lies.end)

      inner_spread : Spread (p + l) e (keys_of_all g.width.bytes (texts s w g.m) (children y) (p + l))
      inner_spread = keys_spread_all g.width.bytes (texts s w g.m) (children y) (p + l) e (omega (arith, end_is))

      keys_are : keys_of g.width.bytes (texts s w g.m) y p ≡ keys_of_all g.width.bytes (texts s w g.m) (children y) (p + l) ++ own_keys (is_key y) p
      keys_are = let z = size_is in rw (← z) (keys_parts g.width.bytes (texts s w g.m) y p)

      code_is : e ≤ size_in g → expanded_code c ≡ is_key y
      code_is i = ap expanded_code read ∙ stands_code s w g G four left p e y h i

    -- theorem: what stands inside can be met
    pub symbol_inside : SomeSymbols s w g k (left - 1) (p + l) n
    symbol_inside =
        let a = S.levels in
        record {
          four = S.four;
          end = S.end;
          symbols = children S.symbol;
          levels = omega arith;
          many = inner-count S.four S.end S.symbol S.stands;
          stand = inner-stand S.four S.end S.symbol S.stands;
          inside = S.inside;
          held = held-inside s w g G p (p + l) n (omega arith) S.held;
        }

    module _ (z b : Form) (empty : z ≡ text_form []) (before-b : From z (before_by g.width.bytes (texts s w g.m) w (g.from + p) c) b)
        (q : Formed) (v : List ℕ) (inner : ReplacesAll s w g k (left - 1) (p + l) c b n q v) where
      met : (four : Bool) (e : ℕ) (y : Sym) (h : StandsAt s w g four left p e y) → e ≤ size_in g
          → NotedAll s w g (p + l) n e (keys_of_all g.width.bytes (texts s w g.m) (children y) (p + l)) q v × (q.form ≡ form_from b (shown_all (children y) (between_by c 1) []))
      unfolding ReplacesAll
      met four e y h i = inner four e (children y) (inner-count four e y h) (inner-stand four e y h) i

      inner-noted : NotedAll s w g (p + l) n S.end (keys_of_all g.width.bytes (texts s w g.m) (children S.symbol) (p + l)) q v
      inner-noted = (met S.four S.end S.symbol S.stands S.inside).0

      inner-kept : KeptAround g w v
      inner-kept = inner-noted.kept

      symbol_length : length v ≡ length w
      symbol_length = inner-kept.long

      symbol_ground : Grounded s v g
      symbol_ground = kept-grounded s w v g G inner-kept

      pub symbol_behind_room : g.from + p + long_of g.width.bytes c ≤ length v
      symbol_behind_room =
          let a : long_of g.width.bytes c ≡ long_of g.width.bytes (get_or w (g.from + p) 0) = ap (long_of g.width.bytes) read in
          omega (arith, symbol_length, symbol_room)

      module _ (f : Form) (behind-f : From q.form (behind_by v (g.from + p) c) f) where
        -- the code is still there
        code_there : (e : ℕ) → p < e → e ≤ size_in g → get_or v (g.from + p) 0 ≡ c
        unfolding size_in
        code_there e i j = kept_byte s w v g G inner-kept (g.from + p) (omega arith) (omega arith) ∙ sym read

        -- theorem: the form of the printed form
        form_is : (four : Bool) (e : ℕ) (y : Sym) (h : StandsAt s w g four left p e y) → e ≤ size_in g → f ≡ text_form (print y)
        form_is four e y h i =
            let o = (standing s w g.m g.width.bytes four left (g.from + p) (g.from + e) y h).reads in
            let there = kept-stands s w v g G inner-kept four left p e y i h in
            let o' = (standing s v g.m g.width.bytes four left (g.from + p) (g.from + e) y there).reads in
            let x0 = end_is four e y h in
            let x1 = size_least four e y h in
            let code = code_there e (omega arith) i in
            let between_is : between_by c 1 ≡ between_text y = ap (λ (u : ℕ). between_by u 1) read ∙ o.between 0 in
            let mid : From b (shown_all (children y) (between_text y) []) q.form = record { is = (met four e y h i).1 ∙ ap (λ (u : Text). form_from b (shown_all (children y) u [])) between_is } in
            let front : From z (before_text y) b = from_as (ap (before_by g.width.bytes (texts s w g.m) w (g.from + p)) read ∙ o.before) before-b in
            let rear : From q.form (behind_text y) f = from_as (ap (behind_by v (g.from + p)) (sym code) ∙ o'.behind) behind-f in
            let all = from_then front (from_then mid rear) in
            all.is ∙ ap (λ (u : Form). form_from u (before_text y ++ (shown_all (children y) (between_text y) [] ++ behind_text y))) empty
            ∙ from_form [] (before_text y ++ (shown_all (children y) (between_text y) [] ++ behind_text y)) ∙ ap text_form (sym (print-whole y))

        -- a symbol that is not expanded
        pub symbol_plain : (t : Bool) → t ≡ expanded_code c → t ≡ false → ReplacesOne s w g left p n (record { at = q.at; form = f; pile = q.pile }) v
        unfolding ReplacesOne own_keys pick
        symbol_plain t a d four e y h i =
            let x = keys_are four e y h in
            let u : is_key y ≡ false = sym (code_is four e y h i) ∙ sym a ∙ d in
            let ks = keys_of_all g.width.bytes (texts s w g.m) (children y) (p + l) in
            let r : keys_of g.width.bytes (texts s w g.m) y p ≡ keys_of_all g.width.bytes (texts s w g.m) (children y) (p + l) =
            x ∙ ap (λ (j : Bool). keys_of_all g.width.bytes (texts s w g.m) (children y) (p + l) ++ own_keys j p) u ∙ append-nil _ in (
              subst (λ (js : List ℕ). NotedAll s w g p n e js (record { at = q.at; form = f; pile = q.pile }) v) (sym r)
                  (noted_plain s w g G v p (p + l) n e ks q (record { at = q.at; form = f; pile = q.pile }) (omega arith) refl refl (met four e y h i).0),
              form_is four e y h i,
            )

        module _ (t : Bool) (a : t ≡ expanded_code c) (d : t ≡ true) where
          own_key : (four : Bool) (e : ℕ) (y : Sym) (h : StandsAt s w g four left p e y) → e ≤ size_in g → is_key y ≡ true
          own_key four e y h i = sym (code_is four e y h i) ∙ sym a ∙ d

          there_now : StandsAt s v g S.four left p S.end S.symbol
          there_now = kept-stands s w v g G inner-kept S.four left p S.end S.symbol S.inside S.stands

          abbrev inner-slots : Slots
          inner-slots = note_all (same_at s w g) (text_in s w g) (keys_of_all g.width.bytes (texts s w g.m) (children S.symbol) (p + l)) S.held.slots

          -- the places inside it are still those
          inner-are : inner_keys s v g (symbol_in s v g p) p ≡ keys_of_all g.width.bytes (texts s w g.m) (children S.symbol) (p + l)
          inner-are =
              ap (λ (y : Sym). inner_keys s v g y p) (stands_symbol s v g symbol_ground S.four left p S.end S.symbol there_now S.inside S.levels)
              ∙ ap (λ (ts : List Text). keys_of_all g.width.bytes ts (children S.symbol) (p + size_of g.width.bytes (sym_node ts S.symbol))) (kept-texts s w v g G inner-kept)
              ∙ ap (λ (m : ℕ). keys_of_all g.width.bytes (texts s w g.m) (children S.symbol) (p + m)) (size_is S.four S.end S.symbol S.stands)

          -- theorem: one that is can be noted
          symbol_notable : Notable s v g q.pile p
          symbol_notable =
              let x0 = end_is S.four S.end S.symbol S.stands in
              let x1 = size_least S.four S.end S.symbol S.stands in
              let x2 = inner-noted.most in
              let x3 = S.held.few in
              let x4 = S.inside in
              let b' = S.held in
              record {
                key = stands_key s v g symbol_ground S.four left p S.end S.symbol there_now S.inside S.levels (own_key S.four S.end S.symbol S.stands S.inside);
                inside = omega arith;
                room = omega arith;
                count = b'.new;
                slots = inner-slots;
                held = inner-noted.held b'.new b'.slots b'.held (λ o m. omega (arith, b'.before o m));
                inner = subst (Each (λ o. HasRef o inner-slots)) (sym inner-are) (notes_have (same_at s w g) (text_in s w g) (keys_of_all g.width.bytes (texts s w g.m) (children S.symbol) (p + l)) b'.slots);
                off = notes_off (same_at s w g) (text_in s w g) p (p + l) S.end (keys_of_all g.width.bytes (texts s w g.m) (children S.symbol) (p + l)) b'.slots (omega arith) (inner_spread S.four S.end S.symbol S.stands) b'.before;
              }

          symbol_form : f ≡ text_form (printed_at s v g p)
          symbol_form =
              form_is S.four S.end S.symbol S.stands S.inside
              ∙ ap text_form (sym (stands_print s v g symbol_ground S.four left p S.end S.symbol there_now S.inside S.levels))

          pub symbol_note : Grounded s v g × Notable s v g q.pile p × (f ≡ text_form (printed_at s v g p))
          symbol_note = (symbol_ground, symbol_notable, symbol_form)

          pub symbol_noted : (m : ℕ) (u : List ℕ) → Notes s v g q.pile p m u → ReplacesOne s w g left p n (record { at = q.at; form = f; pile = m }) u
          unfolding ReplacesOne own_keys pick
          symbol_noted m u o four e y h i =
              let x = keys_are four e y h in
              let x1 = size_least four e y h in
              let ks = keys_of_all g.width.bytes (texts s w g.m) (children y) (p + l) in
              let r : keys_of g.width.bytes (texts s w g.m) y p ≡ keys_of_all g.width.bytes (texts s w g.m) (children y) (p + l) ++ (p ∷ []) =
              x ∙ ap (λ (j : Bool). keys_of_all g.width.bytes (texts s w g.m) (children y) (p + l) ++ own_keys j p) (own_key four e y h i) in (
                subst (λ (js : List ℕ). NotedAll s w g p n e js (record { at = q.at; form = f; pile = m }) u) (sym r)
                    (noted_own s w g G v u p (p + l) n e m ks q (record { at = q.at; form = f; pile = m }) (omega arith) (inner_spread four e y h) refl refl S.held (met four e y h i).0 o),
                form_is four e y h i,
              )

pub ruleset meeting = (rules, ground_worded, ground_hashed, symbol_within, symbol_high, symbol_room, symbol_deep, symbol_at_lem, symbol_fits, symbol_falls)
