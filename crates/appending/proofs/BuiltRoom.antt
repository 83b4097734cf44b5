-- There is room in the list of new texts: they are prints of pushed symbols and built-in texts, all different. Assumes nothing.
use mathlib.Core.Path.{◌≡◌, refl, sym, ap, ◌∙◌}
use mathlib.Core.Bool.{Bool, true, false, false≢true}
use mathlib.Core.List.{List, []}
use Prim.Native.Nat.{ℕ, zero, suc, ◌+◌, ◌-◌, ◌*◌, ◌/◌, ◌%◌, ◌<◌, ◌≤◌}
use native.Mathlib.Omega.{arith}
use borrow.Author.Tests.{eqb-true, eqb-false, eq-eqb, ne_eqb, ltb-true, ltb-false, lt-ltb, le-ltb}
use lib.Dec.{eqb, ltb}
use lib.ListN.{length, get_or}
use Rattle.octets.specs.Working.Choice.{pick}
use Rattle.parse_tree.specs.Plain.Tree.{Text}
use Rattle.parse_tree.specs.Plain.Texts.{has, number}
use Rattle.parse_tree.proofs.TextLaws.{has-text, number-text}
use Rattle.texts.specs.Table.{texts}
use Rattle.replacing.specs.Slots.{among}
use Rattle.replacing.proofs.NumbersMean.{has-append}
use Rattle.expander.specs.declared.Ground.{Ground}
use Rattle.expander.specs.Ground.{slot_at, key_at, list_place, list_at, printed_at}
use Rattle.expander.specs.Held.{followed}
use Rattle.expander.specs.Names.{described_by, listed_texts, named_in, Names, NameRoom}
use Rattle.expander.proofs.NamedTexts.{length_named, named_new, described_even}
use Rattle.appending.specs.Built.{built_text, BuiltNot, Built}

-- ---- different numbers below b are no more than b

-- the number v is left out of those below b
without : ℕ → ℕ → ℕ
without v x = pick (ltb v x) (x - 1) x

without_above : (v x : ℕ) → v < x → without v x ≡ x - 1
unfolding without pick
without_above v x l = cc (lt-ltb v x l)

without_below : (v x : ℕ) → x ≤ v → without v x ≡ x
unfolding without pick
without_below v x l = cc (le-ltb v x l)

without_less : (v x b : ℕ) → v < b → x < b → (x ≡ v → ⊥) → without v x < b - 1
without_less v x b k l d = go (ltb v x) refl
  where
    go : (t : Bool) → ltb v x ≡ t → without v x < b - 1
    go true e = let z = ltb-true v x e in omega (arith, without_above v x z)
    go false e = let z = ltb-false v x e in omega (arith, without_below v x z)

without_one : (v x y : ℕ) → (x ≡ v → ⊥) → (y ≡ v → ⊥) → without v x ≡ without v y → x ≡ y
without_one v x y d f e = go (ltb v x) refl (ltb v y) refl
  where
    go : (t : Bool) → ltb v x ≡ t → (u : Bool) → ltb v y ≡ u → x ≡ y
    go true p true q =
        let a = ltb-true v x p in
        let b = ltb-true v y q in
        omega (arith, without_above v x a, without_above v y b)
    go true p false q =
        let a = ltb-true v x p in
        let b = ltb-false v y q in
        absurd (omega (arith, without_above v x a, without_below v y b))
    go false p true q =
        let a = ltb-false v x p in
        let b = ltb-true v y q in
        absurd (omega (arith, without_below v x a, without_above v y b))
    go false p false q =
        let a = ltb-false v x p in
        let b = ltb-false v y q in
        sym (without_below v x a) ∙ e ∙ without_below v y b

-- theorem: so many different ones
pub different_few : (c b : ℕ) (f : ℕ → ℕ) → ((i : ℕ) → i < c → f i < b) → ((i j : ℕ) → i < c → j < c → f i ≡ f j → i ≡ j) → c ≤ b
different_few zero b f less one = omega arith
different_few (suc c) b f less one =
    let k = less c (omega arith) in
    let z = different_few c (b - 1) (λ i. without (f c) (f i)) (λ i l. without_less (f c) (f i) b k (less i (omega arith)) (last i l))
    (λ i j l m e. one i j (omega arith) (omega arith) (without_one (f c) (f i) (f j) (last i l) (last j m) e)) in
    omega arith
  where
    last : (i : ℕ) → i < c → f i ≡ f c → ⊥
    last i l e = let z = one i c (omega arith) (omega arith) e in omega arith

-- ---- entries of the list by number: those of pushed symbols, then those of built-in texts
code_of : ℕ → ℕ → ℕ
code_of n v = pick (eqb (v % 2) 0) (v / 2) (n + v / 2)

code_even : (n v : ℕ) → v % 2 ≡ 0 → code_of n v ≡ v / 2
unfolding code_of pick
code_even n v e = cc (eq-eqb (v % 2) 0 e)

code_odd : (n v : ℕ) → (v % 2 ≡ 0 → ⊥) → code_of n v ≡ n + v / 2
unfolding code_of pick
code_odd n v e = cc (ne_eqb (v % 2) 0 e)

abbrev Entry : ℕ → ℕ → Type 0
Entry n v = (v % 2 ≡ 0 → v / 2 < n) × (v % 2 ≡ 1 → v / 2 < 9)

code_less : (n v : ℕ) → Entry n v → code_of n v < n + 9
code_less n v h = go (eqb (v % 2) 0) refl
  where
    go : (b : Bool) → eqb (v % 2) 0 ≡ b → code_of n v < n + 9
    go true e = let z = eqb-true (v % 2) 0 e in omega (arith, code_even n v z, h.0 z)
    go false e =
        let z = eqb-false (v % 2) 0 e in
        let y : v % 2 ≡ 1 = omega arith in
        omega (arith, code_odd n v z, h.1 y)

code_one : (n v u : ℕ) → Entry n v → Entry n u → code_of n v ≡ code_of n u → v ≡ u
code_one n v u h k e = go (eqb (v % 2) 0) refl (eqb (u % 2) 0) refl
  where
    go : (a : Bool) → eqb (v % 2) 0 ≡ a → (b : Bool) → eqb (u % 2) 0 ≡ b → v ≡ u
    go true p true q =
        let x = eqb-true (v % 2) 0 p in
        let y = eqb-true (u % 2) 0 q in
        omega (arith, code_even n v x, code_even n u y)
    go true p false q =
        let x = eqb-true (v % 2) 0 p in
        let y = eqb-false (u % 2) 0 q in
        absurd (omega (arith, code_even n v x, code_odd n u y, h.0 x))
    go false p true q =
        let x = eqb-false (v % 2) 0 p in
        let y = eqb-true (u % 2) 0 q in
        absurd (omega (arith, code_odd n v x, code_even n u y, k.0 y))
    go false p false q =
        let x = eqb-false (v % 2) 0 p in
        let y = eqb-false (u % 2) 0 q in
        omega (arith, code_odd n v x, code_odd n u y)

-- ---- an entry u whose text isn't there yet has room
module _ (s w : List ℕ) (g : Ground) (n c : ℕ) (ps : List ℕ) (h : Names s w g n c ps) (u : ℕ) (k : Entry n u) (absent : has (described_by s w g u) (named_in s w g c) ≡ false) where
  abbrev ts : List Text
  ts = named_in s w g c

  -- the entries, and then that one
  entry : ℕ → ℕ
  entry i = pick (ltb i c) (list_at w g i) u

  entry_old : (i : ℕ) → i < c → entry i ≡ list_at w g i
  unfolding entry pick
  entry_old i l = cc (lt-ltb i c l)

  entry_new : (i : ℕ) → c ≤ i → entry i ≡ u
  unfolding entry pick
  entry_new i l = cc (le-ltb i c l)

  entry_good : (i : ℕ) → Entry n (entry i)
  entry_good i = go (ltb i c) refl
    where
      go : (b : Bool) → ltb i c ≡ b → Entry n (entry i)
      go true e = let l = ltb-true i c e in rw (entry_old i l) (h.entries i l)
      go false e = rw (entry_new i (ltb-false i c e)) k

  text_of : (i : ℕ) → i < c → get_or ts (g.m.count + i) [] ≡ described_by s w g (list_at w g i)
  text_of i l = named_new s w g c (g.m.count + i) (omega arith) (omega arith) ∙ ap (λ (j : ℕ). described_by s w g (list_at w g j)) (omega arith)

  below : (i : ℕ) → i < c → g.m.count + i < length ts
  below i l = omega (arith, length_named s w g c)

  -- an entry that is there is another
  not_there : (i : ℕ) → i < c → list_at w g i ≡ u → ⊥
  not_there i l e =
      false≢true (sym absent ∙ ap (λ (t : Text). has t ts) (ap (described_by s w g) (sym e) ∙ sym (text_of i l)) ∙ has-text ts (g.m.count + i) (below i l))

  list_one : (i j : ℕ) → i < c → j < c → list_at w g i ≡ list_at w g j → i ≡ j
  list_one i j l m e =
      let z = text_of i l ∙ ap (described_by s w g) e ∙ sym (text_of j m) in
      let y = sym (number-text ts (g.m.count + i) h.apart (below i l)) ∙ ap (number ts) z ∙ number-text ts (g.m.count + j) h.apart (below j m) in
      omega arith

  entry_one : (i j : ℕ) → i < c + 1 → j < c + 1 → entry i ≡ entry j → i ≡ j
  entry_one i j l m e = go (ltb i c) refl (ltb j c) refl
    where
      go : (a : Bool) → ltb i c ≡ a → (b : Bool) → ltb j c ≡ b → i ≡ j
      go true p true q =
          let x = ltb-true i c p in
          let y = ltb-true j c q in
          list_one i j x y (sym (entry_old i x) ∙ e ∙ entry_old j y)
      go true p false q = let x = ltb-true i c p in absurd (not_there i x (sym (entry_old i x) ∙ e ∙ entry_new j (ltb-false j c q)))
      go false p true q = let y = ltb-true j c q in absurd (not_there j y (sym (entry_old j y) ∙ sym e ∙ entry_new i (ltb-false i c p)))
      go false p false q =
          let x = ltb-false i c p in
          let y = ltb-false j c q in
          omega arith

  one_more : c + 1 ≤ n + 9
  one_more = different_few (c + 1) (n + 9) (λ i. code_of n (entry i)) (λ i l. code_less n (entry i) (entry_good i)) (λ i j l m e. entry_one i j l m (code_one n (entry i) (entry j) (entry_good i) (entry_good j) e))

  pub entry_room : list_place g (n + 9) ≤ g.keys → list_place g c + 8 ≤ g.keys
  entry_room l = omega (arith, one_more)

-- theorem: there is room for the text of every symbol that has a reference
pub names_room : (s w : List ℕ) (g : Ground) (n c : ℕ) (ps : List ℕ) → Names s w g n c ps → Built s w g n c → (p : ℕ) → among p ps ≡ true → NameRoom w g c p
names_room s w g n c ps h b p i = record { more = go (followed w g (slot_at w g p)) refl }
  where
    go : (v : ℕ) → followed w g (slot_at w g p) ≡ v → v % 2 ≡ 1 → list_place g c + 8 ≤ g.keys
    go v e z =
        let (x, y, f) = (h.refs p i).odd (ap (λ (k : ℕ). k % 2) e ∙ z) in
        let m : v / 2 < n = rw (← e) x in
        let even : 2 * (v / 2) % 2 ≡ 0 = omega arith in
        let half : 2 * (v / 2) / 2 ≡ v / 2 = omega arith in
        let same : described_by s w g (2 * (v / 2)) ≡ printed_at s w g p
        = described_even s w g (2 * (v / 2)) even ∙ ap (λ (k : ℕ). printed_at s w g (key_at w g k)) (half ∙ ap (λ (k : ℕ). k / 2) (sym e)) ∙ y in
        entry_room s w g n c ps h (2 * (v / 2)) (λ _. omega arith, λ o. absurd (omega arith)) (ap (λ (t : Text). has t (named_in s w g c)) same ∙ f) b.list

-- ---- a built-in text that is not there yet
pub described_built : (s w : List ℕ) (g : Ground) (i : ℕ) → described_by s w g (2 * i + 1) ≡ built_text i
unfolding described_by pick built_text
described_built s w g i =
    let odd : (2 * i + 1) % 2 ≡ 0 → ⊥ = λ z. omega arith in
    let half : (2 * i + 1) / 2 ≡ i = omega arith in
    cc (ne_eqb ((2 * i + 1) % 2) 0 odd, half)

module _ (s w : List ℕ) (g : Ground) (n c i : ℕ) (x : BuiltNot s w g c i) (absent : has (built_text i) (texts s w g.m) ≡ false) where
  pub built_absent : has (built_text i) (named_in s w g c) ≡ false
  unfolding named_in
  built_absent = has-append (built_text i) (texts s w g.m) (listed_texts s w g c) ∙ cc (absent, x.new)

  -- theorem: there is room for it
  pub built_room : (ps : List ℕ) → Names s w g n c ps → Built s w g n c → i < 9 → list_place g c + 8 ≤ g.keys
  built_room ps h b l =
      let odd : (2 * i + 1) % 2 ≡ 0 → ⊥ = λ z. omega arith in
      let half : (2 * i + 1) / 2 ≡ i = omega arith in
      entry_room s w g n c ps h (2 * i + 1) (λ z. absurd (odd z), λ _. omega arith) (ap (λ (t : Text). has t (named_in s w g c)) (described_built s w g i) ∙ built_absent) b.list
