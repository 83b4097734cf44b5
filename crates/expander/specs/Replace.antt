-- Symbols that stand in work, met from inside to outside: their forms, and what is noted. s is the tape, w is work. Assumes nothing: these are definitions.
use Rattle.std.specs.Prelude.{◌≡◌, Bool, true, List, [], ◌∷◌, ◌++◌, ℕ, ◌+◌, ◌*◌, ◌≤◌, eqb, length}
use Rattle.octets.specs.Working.Choice.{pick}
use Rattle.parse_tree.specs.Plain.Tree.{Text, Leaf, Around, Over, Sym, Syms, ambiguous, bare, quoted, regex, nonterminal, lookahead, lookbehind, error, repeat, choose, name, macro, group, leaf, around, over, nil, cons, count}
use Rattle.parse_tree.specs.Plain.Display.{shown_all, print}
use Rattle.parse_tree.specs.Working.Encode.{sym_bytes}
use Rattle.texts.specs.Table.{texts}
use Rattle.replacing.specs.Slots.{Slots, note_all}
use Rattle.display.specs.declared.form.Form.{Form}
use Rattle.display.specs.Standing.{SymStands, SymsStand}
use Rattle.display.specs.Follow.{between_by}
use Rattle.display.specs.Form.{text_form, form_from}
use Rattle.expander.specs.declared.Ground.{Ground}
use Rattle.expander.specs.declared.replace.Formed.{Formed}
use Rattle.expander.specs.Ground.{size_in, same_at, text_in, KeptAround}
use Rattle.expander.specs.Held.{Held, AllBefore}

-- 25, 26, 29, 2a, 2b
unfoldable pub expanded_code : ℕ → Bool
expanded_code c = pick (eqb c 37) true (pick (eqb c 38) true (pick (eqb c 41) true (pick (eqb c 42) true (eqb c 43))))

-- ---- the places of the symbols that are expanded, inner ones first, in a symbol that stands at p
unfoldable pub leaf_keys : Leaf → ℕ → List ℕ
leaf_keys (ambiguous x) p = []
leaf_keys (bare x) p = []
leaf_keys (quoted x) p = []
leaf_keys (regex x) p = []
leaf_keys (nonterminal x) p = []
leaf_keys lookahead p = p ∷ []
leaf_keys lookbehind p = p ∷ []
leaf_keys error p = []

unfoldable pub around_keys : Around → ℕ → List ℕ
around_keys (repeat o) p = p ∷ []
around_keys choose p = []
around_keys (name m x) p = []

-- how long the commands of symbols are that others stand in
unfoldable pub around_long : ℕ → Around → ℕ
around_long wd (repeat o) = 10
around_long wd choose = 9
around_long wd (name m x) = 10 + wd

unfoldable pub over_long : ℕ → Over → ℕ
over_long wd (macro x) = 10 + wd
over_long wd group = 11

module _ (wd : ℕ) (ts : List Text) where
  unfoldable mutual
    pub keys_of : Sym → ℕ → List ℕ
    keys_of (leaf s l) p = leaf_keys l p
    keys_of (around s a x) p = keys_of x (p + around_long wd a) ++ around_keys a p
    keys_of (over s o xs) p = keys_of_all xs (p + over_long wd o) ++ (p ∷ [])

    pub keys_of_all : Syms → ℕ → List ℕ
    keys_of_all nil p = []
    keys_of_all (cons x xs) p = keys_of x p ++ keys_of_all xs (p + length (sym_bytes wd ts x))

module _ (s w : List ℕ) (g : Ground) where
  -- y stands at the place p of the stage, up to e
  abbrev pub StandsAt : Bool → ℕ → ℕ → ℕ → Sym → Type 0
  StandsAt four left p e y = SymStands s w g.m g.width.bytes four left (g.from + p) (g.from + e) y

  abbrev pub StandAt : Bool → ℕ → ℕ → ℕ → Syms → Type 0
  StandAt four left p e ys = SymsStand s w g.m g.width.bytes four left (g.from + p) (g.from + e) ys

  -- something is held where n symbols are pushed, all before p
  pub record HeldBefore (p n : ℕ) : Type 0 where
    pub few : 9 * n ≤ p
    pub new : ℕ
    pub slots : Slots
    pub held : Held s w g n new slots
    pub before : AllBefore p slots

  pub record SomeSymbol (left p n : ℕ) : Type 0 where
    pub four : Bool
    pub end : ℕ
    pub symbol : Sym
    pub levels : left ≤ 64
    pub stands : StandsAt four left p end symbol
    pub inside : end ≤ size_in g
    pub held : HeldBefore p n

  pub record SomeSymbols (k left p n : ℕ) : Type 0 where
    pub four : Bool
    pub end : ℕ
    pub symbols : Syms
    pub levels : left ≤ 64
    pub many : count symbols ≡ k
    pub stand : StandAt four left p end symbols
    pub inside : end ≤ size_in g
    pub held : HeldBefore p n

  -- from w to w' the symbols at ps, between p and e, were noted
  pub record NotedAll (p n e : ℕ) (ps : List ℕ) (r : Formed) (w' : List ℕ) : Type 0 where
    pub end : r.at ≡ e
    pub kept : KeptAround g w w'
    pub least : n ≤ r.pile
    pub most : 9 * r.pile + p ≤ 9 * n + e
    pub held : (c : ℕ) (x : Slots) → Held s w g n c x → AllBefore p x → Held s w' g r.pile c (note_all (same_at s w g) (text_in s w g) ps x)

  -- of every symbol that stands at p
  unfoldable pub ReplacesOne : ℕ → ℕ → ℕ → Formed → List ℕ → Type 0
  ReplacesOne left p n r w' = (four : Bool) (e : ℕ) (y : Sym) → StandsAt four left p e y → e ≤ size_in g
      → NotedAll p n e (keys_of g.width.bytes (texts s w g.m) y p) r w' × (r.form ≡ text_form (print y))

  unfoldable pub ReplacesAll : ℕ → ℕ → ℕ → ℕ → Form → ℕ → Formed → List ℕ → Type 0
  ReplacesAll k left p c f n r w' = (four : Bool) (e : ℕ) (ys : Syms) → count ys ≡ k → StandAt four left p e ys → e ≤ size_in g
      → NotedAll p n e (keys_of_all g.width.bytes (texts s w g.m) ys p) r w' × (r.form ≡ form_from f (shown_all ys (between_by c 1) []))
