-- What slots stand for: the invariant that noting and numbering keep, for contracts and loops. Assumes nothing: these are definitions.
use Rattle.std.specs.Prelude.{◌≡◌, Bool, true, false, ◌||◌, List, [], ◌++◌, map, ℕ, ◌<◌, length, get_or}
use Rattle.parse_tree.specs.Plain.Tree.{Text, Sym}
use Rattle.parse_tree.specs.Plain.Texts.{has, distinct}
use Rattle.parse_tree.specs.Plain.Display.{print}
use Rattle.parse_tree.specs.Working.Nodes.{node_at}
use Rattle.parse_tree.specs.Plain.Reading.{got}
use Rattle.parse_tree.specs.Working.Decode.{read_sym}
use Rattle.parse_tree.specs.Working.Within.{Each}
use Rattle.passes.specs.Macros.{MacroExpander}
use Rattle.replacing.specs.Trees.{inner, is_key}
use Rattle.replacing.specs.Prints.{sym_at}
use Rattle.replacing.specs.Slots.{Ref, text, like, Slots, places, among}
use Rattle.replacing.specs.Runs.{plain}

-- a symbol that is expanded stands at p
pub record Firm (four : Bool) (w : ℕ) (s : List ℕ) (ts : List Text) (p : ℕ) : Type 0 where
  pub end : ℕ
  pub read : read_sym four w s ts 64 p ≡ got (sym_at four w s ts p) end
  pub key : plain (node_at w s p) ≡ false

-- a text that is the print of a symbol that is expanded
pub record Key (t : Text) : Type 0 where
  pub symbol : Sym
  pub own : is_key symbol ≡ true
  pub is : print symbol ≡ t

-- the place has a reference
abbrev pub HasRef : ℕ → Slots → Type 0
HasRef p x = among p (map (λ (r : ℕ × Ref). r.0) x.refs) ≡ true

-- whoever has a reference, all inside it have
abbrev pub AllNoted : ℕ → List ℕ → Slots → Type 0
AllNoted w s x = (p : ℕ) → HasRef p x → (qs : List ℕ) (e : ℕ) → places w s 64 p ≡ got qs e → (q : ℕ) → among q qs ≡ true → HasRef q x

-- at is the symbol at a place, Here says that one stands there, ts are the texts that the round found
module _ (at : ℕ → Sym) (Here : ℕ → Type 0) (ts : List Text) where
  -- what a reference says: a text that is the print, or a first symbol of this print
  abbrev pub Good : List ℕ → ℕ → Ref → Type 0
  Good qs p (text k) = (k < length ts) × (get_or ts k [] ≡ print (at p))
  Good qs p (like q) = (print (at q) ≡ print (at p)) × (among q qs ≡ true)

  -- the slots x stand for the expander σ
  pub record Sound (x : Slots) (σ : MacroExpander) : Type 0 where
    -- the pile is that of the symbols at its places, with their inner symbols replaced; symbols stand there, and have references
    pub pile : map (λ p. inner (at p)) x.pile ≡ σ.pile
    pub stands : Each Here x.pile
    pub piled : Each (λ p. HasRef p x) x.pile
    -- a print is a key if it is a text that was pushed, or the print of a first symbol, which is no text
    pub keys : (t : Text) → Key t → has t σ.keys ≡ (has t (map (λ k. get_or ts k []) x.marks) || has t (map (λ p. print (at p)) x.firsts))
    pub marks : Each (λ k. k < length ts) x.marks
    pub firsts : Each (λ q. has (print (at q)) ts ≡ false) x.firsts
    pub firsts_stand : Each Here x.firsts
    -- no two firsts print alike
    pub apart : distinct (map (λ p. print (at p)) x.firsts) ≡ true
    pub refs : Each (λ (r : ℕ × Ref). Good x.firsts r.0 r.1) x.refs
    -- texts with new numbers
    pub news : Each (λ q. among q x.firsts ≡ true) x.news
    pub numbers : distinct (ts ++ map (λ p. print (at p)) x.news) ≡ true
