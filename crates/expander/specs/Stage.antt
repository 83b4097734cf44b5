-- The replacing stage as a run over commands that stand in work: what must stand there, and what a turn and the whole leave. s is the tape, w is work. Assumes nothing: these are definitions.
use Rattle.std.specs.Prelude.{◌≡◌, Bool, true, false, ◌⊎◌, List, [], ◌++◌, ℕ, zero, suc, ◌+◌, ◌-◌, ◌*◌, ◌≤◌, ◌<◌, eqb, leb, ltb, length, get_or}
use Rattle.octets.specs.Working.Choice.{pick}
use Rattle.octets.specs.Plain.Runs.{part, Lies}
use Rattle.parse_tree.specs.Plain.Tree.{Text}
use Rattle.parse_tree.specs.Working.Nodes.{code_size, node_at, size_read}
use Rattle.parse_tree.specs.Working.Within.{Each}
use Rattle.texts.specs.Fields.{Chained}
use Rattle.texts.specs.Table.{Above, texts}
use Rattle.replacing.specs.Slots.{Slots, among, numbered}
use Rattle.replacing.specs.Runs.{plain, is_item, is_macro, hops, key_bytes, Run, steps}
use Rattle.replacing.specs.Sound.{Firm, HasRef}
use Rattle.replacing.specs.Round.{replaced}
use Rattle.expander.specs.declared.Ground.{Ground}
use Rattle.expander.specs.declared.replace.Formed.{Formed}
use Rattle.expander.specs.declared.stage.Replaced.{Replaced}
use Rattle.expander.specs.Ground.{size_in, stage_in, top_of, list_place, pushed_text, KeyAt, same_at, text_in, Grounded}
use Rattle.expander.specs.Replace.{expanded_code}
use Rattle.expander.specs.Held.{Held, AllBefore}

-- ---- commands by their codes
unfoldable pub item_code : ℕ → Bool
item_code c = pick (eqb c 16) true (pick (eqb c 48) true (eqb c 49))

-- 20 to 24: a span and a name
unfoldable pub name_code : ℕ → Bool
name_code c = pick (ltb c 32) false (leb c 36)

unfoldable pub macro_at : ℕ → List ℕ → ℕ → ℕ → Bool
macro_at wd w at c = pick (eqb c 16) (ltb 0 (get_or w (at + 10 + wd) 0)) false

-- a symbol that is expanded, or the definition of a macro
unfoldable pub uncopied_at : ℕ → List ℕ → ℕ → ℕ → Bool
uncopied_at wd w at c = pick (expanded_code c) true (macro_at wd w at c)

pub record RoomFor (wd : ℕ) (w : List ℕ) (at c : ℕ) : Type 0 where
  pub room : expanded_code c ≡ false → at + code_size wd c ≤ length w

-- ---- what stands in a stage t, whose names are numbers in ts
module _ (wd : ℕ) (t : List ℕ) where
  -- a whole command stands at p, which is no atom
  pub record WholeAt (p : ℕ) : Type 0 where
    pub some : 0 < size_read wd (node_at wd t p)
    pub known : (get_or t p 0 ≡ 1) → ⊥
    pub inside : p + size_read wd (node_at wd t p) ≤ length t

  -- whole commands from p on, up to an item or the end, at most n
  unfoldable pub Hopping : ℕ → ℕ → Type 0
  Hopping zero p = (p ≡ length t) ⊎ (is_item (node_at wd t p) ≡ true)
  Hopping (suc n) p = (p ≡ length t) ⊎ (is_item (node_at wd t p) ≡ true) ⊎ ((is_item (node_at wd t p) ≡ false) × WholeAt p × Hopping n (p + size_read wd (node_at wd t p)))

  module _ (ts : List Text) where
    -- turns of the run from p on, at most n: each copies a whole command, leaves a definition of a macro out, or meets one of k symbols that are expanded
    unfoldable pub Walks : ℕ → ℕ → ℕ → Type 0
    Walks zero k p = p ≡ length t
    Walks (suc n) k p =
        (p ≡ length t)
        ⊎ ((plain (node_at wd t p) ≡ true) × (is_macro (node_at wd t p) ≡ false) × WholeAt p × Walks n k (p + size_read wd (node_at wd t p)))
        ⊎ ((is_macro (node_at wd t p) ≡ true) × WholeAt p × ((h : ℕ) × Hopping h (p + size_read wd (node_at wd t p))) × Walks n k (hops wd t (length t) (p + size_read wd (node_at wd t p))))
        ⊎ ((f : Firm false wd t ts p) × (f.end ≤ length t) × (1 ≤ k) × Walks n (k - 1) f.end)

-- ---- the next item
pub record SomeHops (w : List ℕ) (g : Ground) (p : ℕ) : Type 0 where
  pub many : ℕ
  pub hopping : Hopping g.width.bytes (stage_in w g) many p
  pub inside : p ≤ size_in g

pub record Skips (w : List ℕ) (g : Ground) (p r : ℕ) : Type 0 where
  pub is : r ≡ hops g.width.bytes (stage_in w g) (length (stage_in w g)) p
  pub from : p ≤ r
  pub upto : r ≤ size_in g

-- ---- where replaced items are written: behind the slots and the items, before the texts
pub record Writable (s w : List ℕ) (g : Ground) (to n : ℕ) : Type 0 where
  pub lim : ℕ
  pub top : top_of g ≤ to
  pub items : g.end ≤ to
  -- n bytes of items are left: each nine may become 9 + wd
  pub room : 9 * to + (9 + g.width.bytes) * n ≤ 9 * lim
  pub inside : lim ≤ length w
  pub above : Above s w g.m lim

-- from w to w' nothing changed but the list of new texts, records, slots, and what was written from a up to e
pub record WroteOnly (g : Ground) (a e : ℕ) (w w' : List ℕ) : Type 0 where
  pub long : length w' ≡ length w
  pub others : (i : ℕ) → (i < list_place g 0) ⊎ ((top_of g ≤ i) × (i < a)) ⊎ (e ≤ i) → get_or w' i 0 ≡ get_or w i 0

module _ (s w : List ℕ) (g : Ground) where
  -- ---- the nonterminal of a symbol that was noted
  pub record SomeFormed (r : Replaced) (k : Formed) : Type 0 where
    pub key : KeyAt s w g r.at
    pub inside : r.at + 9 ≤ size_in g
    pub list : list_place g r.count + 8 ≤ g.keys
    pub writable : Writable s w g r.to 9
    pub slots : Slots
    pub held : Held s w g k.pile r.count slots
    pub noted : HasRef r.at slots

  pub record PutBy (r : Replaced) (x : Slots) (q : Replaced) (w' : List ℕ) : Type 0 where
    pub lies : Lies w' r.to (key_bytes g.width.bytes (node_at g.width.bytes (stage_in w g) r.at) (numbered g.m.count r.at x).0) q.to
    pub held : Held s w' g q.pile q.count (numbered g.m.count r.at x).1

  pub record PutsFormed (r : Replaced) (k : Formed) (q : Replaced) (w' : List ℕ) : Type 0 where
    pub at : q.at ≡ k.at
    pub pile : q.pile ≡ k.pile
    pub to : q.to ≡ r.to + 9 + g.width.bytes
    pub most : q.count ≤ r.count + 1
    pub wrote : WroteOnly g r.to q.to w w'
    pub each : (x : Slots) → Held s w g k.pile r.count x → HasRef r.at x → PutBy r x q w'

  -- ---- one turn
  pub record SomeTurn (r : Replaced) : Type 0 where
    pub turns : ℕ
    pub left : ℕ
    pub walks : Walks g.width.bytes (stage_in w g) (texts s w g.m) turns left r.at
    pub upto : r.at ≤ size_in g
    pub list : list_place g (r.count + left) ≤ g.keys
    pub writable : Writable s w g r.to (size_in g - r.at)
    pub few : 9 * r.pile ≤ r.at
    pub slots : Slots
    pub held : Held s w g r.pile r.count slots
    pub before : AllBefore r.at slots

  -- n steps of the definition
  abbrev pub stepped : ℕ → Run → Run
  stepped n = steps (same_at s w g) (text_in s w g) g.width.bytes g.m.count (stage_in w g) n

  abbrev pub turned : ℕ → ℕ → Slots → Run
  turned n p x = stepped n (record { at = p; out = []; slots = x })

  pub record TurnedBy (n : ℕ) (r : Replaced) (x : Slots) (q : Replaced) (w' : List ℕ) : Type 0 where
    pub at : q.at ≡ (turned n r.at x).at
    pub lies : Lies w' r.to (turned n r.at x).out q.to
    pub held : Held s w' g q.pile q.count (turned n r.at x).slots
    pub before : AllBefore q.at (turned n r.at x).slots

  -- ---- commands that are copied, one behind another
  pub record SomeWalk (p : ℕ) : Type 0 where
    pub turns : ℕ
    pub left : ℕ
    pub walks : Walks g.width.bytes (stage_in w g) (texts s w g.m) turns left p
    pub upto : p ≤ size_in g

  -- steps of the definition from p to q copy what stands there; and what could follow still can
  pub record Copies (p q : ℕ) : Type 0 where
    pub turns : ℕ
    pub few : turns + p ≤ q
    pub upto : q ≤ size_in g
    pub is : (o : List ℕ) (x : Slots) → stepped turns (record { at = p; out = o; slots = x }) ≡ record { at = q; out = o ++ part p q (stage_in w g); slots = x }
    pub walks : (n k : ℕ) → Walks g.width.bytes (stage_in w g) (texts s w g.m) n k p → (m : ℕ) × Walks g.width.bytes (stage_in w g) (texts s w g.m) m k q

-- the turn is so many steps for every x that is held; and another turn can follow
pub record Turns (s w : List ℕ) (g : Ground) (r q : Replaced) (w' : List ℕ) : Type 0 where
  pub steps : ℕ
  pub few : steps + r.at ≤ q.at
  pub each : (x : Slots) → Held s w g r.pile r.count x → AllBefore r.at x → TurnedBy s w g steps r x q w'
  pub next : SomeTurn s w' g q
  pub on : r.at < q.at
  pub to : r.to ≤ q.to
  pub wrote : WroteOnly g r.to q.to w w'

-- ---- the whole stage

-- nothing is pushed yet
pub record SomeStage (s w : List ℕ) (g : Ground) (to : ℕ) : Type 0 where
  pub turns : ℕ
  pub left : ℕ
  pub walks : Walks g.width.bytes (stage_in w g) (texts s w g.m) turns left 0
  pub list : list_place g left ≤ g.keys
  pub writable : Writable s w g to (size_in g)
  pub empty : Chained w g.keys g.buckets 0

-- ms are the numbers of the texts that were pushed in earlier rounds
pub record MarksAre (w : List ℕ) (g : Ground) (ms : List ℕ) : Type 0 where
  pub marks : (k : ℕ) → k < g.m.count → among k ms ≡ pushed_text w g k
  pub below : Each (λ (k : ℕ). k < g.m.count) ms

pub record StagedBy (s w : List ℕ) (g : Ground) (to : ℕ) (ms : List ℕ) (r : Replaced) (w' : List ℕ) : Type 0 where
  pub lies : Lies w' to (replaced false g.width.bytes (stage_in w g) (texts s w g.m) ms).out r.to
  pub held : Held s w' g r.pile r.count (replaced false g.width.bytes (stage_in w g) (texts s w g.m) ms).slots

-- what is written and held then is what `replaced` says
pub record Stages (s w : List ℕ) (g : Ground) (to : ℕ) (r : Replaced) (w' : List ℕ) : Type 0 where
  pub each : (ms : List ℕ) → MarksAre w g ms → StagedBy s w g to ms r w'
  pub end : r.at ≡ size_in g
  pub wrote : WroteOnly g to r.to w w'
  pub ground : Grounded s w' g
  pub writable : Writable s w' g r.to 0
