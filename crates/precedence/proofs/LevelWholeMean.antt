-- What a level that is put means: the item of its group, with its fall-through. Assumes nothing.
use mathlib.Core.Path.{◌≡◌, refl, sym, ap, ◌∙◌}
use mathlib.Core.Bool.{Bool, true}
use mathlib.Core.Logic.{inl, inr}
use mathlib.Core.List.{List, [], ◌∷◌, ◌++◌, map, append_assoc}
use mathlib.Core.Option.{Option, none, some}
use Prim.Native.Nat.{ℕ, ◌+◌, ◌-◌, ◌*◌, ◌/◌, ◌%◌, ◌<◌, ◌≤◌}
use native.Mathlib.Omega.{arith}
use lib.ListN.{length, length-append, length-map}
use Rattle.std.specs.Prelude.{Option as Maybe, Some, None, unwrap_or}
use Rattle.octets.specs.Plain.Numbers.{le_at, Bytes}
use Rattle.octets.proofs.LiesLaws.{lies_split}
use Rattle.parse_tree.specs.Plain.Tree.{Text, Alternative, Nonterminal}
use Rattle.parse_tree.specs.Plain.Texts.{has, number}
use Rattle.parse_tree.specs.Plain.WriteTape.{bytes_of_each}
use Rattle.parse_tree.specs.Working.Nodes.{node_bytes}
use Rattle.parse_tree.specs.Working.Encode.{item_bytes, nonterminal_node, argument_bytes, alternative_bytes}
use Rattle.parse_tree.specs.declared.syntax.Span.{Span}
use Rattle.passes.specs.Outcome.{with_alternatives, with_name}
use Rattle.passes.specs.Grades.{Graded}
use Rattle.passes.specs.Levels.{Group, lower_name, substitute, substituted, fall_through, with_fall_through}
use Rattle.resolve.specs.Whole.{Apart}
use Rattle.resolve.proofs.GrammarLaws.{Headed}
use Rattle.grades.specs.Ids.{ids_in}
use Rattle.grades.proofs.AlternativesMean.{first_means}
use Rattle.precedence.specs.declared.level.Level.{Level}
use Rattle.precedence.specs.Write.{Puts}
use Rattle.precedence.specs.Level.{nonterminal_out, key_end, PutsKeys, level_count, lower_bytes, LevelInside, PutsLevel}
use Rattle.precedence.proofs.WriteLaws.{puts_beside, puts_on, puts_upto, puts_append}
use Rattle.precedence.proofs.WriteMean.{fall_means}
use Rattle.precedence.proofs.LevelMean.{head_means}
use Rattle.precedence.proofs.LevelKeysMean.{KeysMean, keys_inside, keys_mean}

-- the number of the name of a lower level, if there is one
abbrev pub lower_number : List Text → Option Text → Maybe ℕ
lower_number ts none = None
lower_number ts (some t) = Some (number ts t)

-- what stands for it where there is none: the level's own
pub lower_or_own : (ts : List Text) (o : Option Text) (v : Text) (b : Maybe ℕ) (n : ℕ) → b ≡ lower_number ts o → n ≡ number ts v → unwrap_or b n ≡ number ts (elim o [ none ↦ v | some t ↦ t ])
lower_or_own ts none v b n z y = rw z y
lower_or_own ts (some t) v b n z y = rw z

bytes_of_both : {A : Type 0} (f : A → List ℕ) (xs ys : List A) → bytes_of_each f (xs ++ ys) ≡ bytes_of_each f xs ++ bytes_of_each f ys
unfolding bytes_of_each
bytes_of_both f [] ys = refl
bytes_of_both f (x ∷ xs) ys = ap (λ (r : List ℕ). f x ++ r) (bytes_of_both f xs ys) ∙ sym (append_assoc (f x) (bytes_of_each f xs) (bytes_of_each f ys))

count-means : (ts : List Text) (as' : List Alternative) (s : Span) (o : Option Text) (b : Maybe ℕ) (n : ℕ) → b ≡ lower_number ts o → n ≡ length as'
    → elim b [ Some v ↦ n + 1 | None ↦ n ] ≡ length (as' ++ fall_through s o)
count-means ts as' s none b n z y = rw z (omega (arith, y, length-append as' (fall_through s none)))
count-means ts as' s (some t) b n z y = rw z (omega (arith, y, length-append as' (fall_through s (some t))))

-- a group, and the level that the code knows of it
pub record LevelOf (ts : List Text) (group : Group Graded) (l : Level) : Type 0 where
  pub name : l.name ≡ number ts group.name
  pub below : l.below ≡ lower_number ts group.lower
  pub lower : l.lower ≡ number ts (lower_name group)
  pub many : l.last ≡ l.first + length group.alternatives

-- the two arrays, and of n places noted those of the level's keys
pub record ArraysOf (w : List ℕ) (places keys n : ℕ) (l : Level) (lim to : ℕ) : Type 0 where
  pub keys_there : keys + 8 * l.last ≤ length w
  pub keys_apart : Apart keys (keys + 8 * l.last) to (lim + 16)
  pub places-there : places + 8 * n + 8 ≤ length w
  pub places-apart : Apart places (places + 8 * n + 8) to (lim + 16)
  pub noted : (j : ℕ) → l.first ≤ j → j < l.last → (le_at 8 w (keys + 8 * j) / 4 % 65536 < n) × (key_end w places (le_at 8 w (keys + 8 * j)) ≤ to)

module _ (four : Bool) (wd : ℕ) (ts : List Text) (w : List ℕ) (p e : ℕ) (d : Nonterminal) (bytes : Bytes w) (h : Headed w wd ts p d e) where
  falls_mean : (o : Option Text) (b : Maybe ℕ) → b ≡ lower_number ts o → lower_bytes wd (le_at 8 w (p + 1)) b ≡ bytes_of_each (alternative_bytes wd ts) (fall_through d.span o)
  unfolding lower_bytes bytes_of_each
  falls_mean none b z = rw z
  falls_mean (some n) b z =
      let node = lies_split w p _ (node_bytes wd (nonterminal_node ts d)) (bytes_of_each (argument_bytes wd ts) d.args) h.front in
      rw z (fall_means wd ts w d p _ n bytes node.0)

  -- theorem: where the nonterminal stands before `to` and its arrays apart, the level can be written
  pub level_inside : (places keys n : ℕ) (group : Group Graded) (l : Level) (lim to : ℕ) → LevelOf ts group l → KeysMean four wd ts places keys w l.first group.alternatives → ArraysOf w places keys n l lim to
      → length group.alternatives < 65536 → e ≤ to → to ≤ lim + 1 → lim + 16 ≤ length w → LevelInside wd w p places keys l lim to
  level_inside places keys n group l lim to of means a few below stop room =
      let m = of.many in
      let f = first_means four wd ts w p e d h in
      let z = h.alternatives.end in
      let ends : l.first + length group.alternatives ≡ l.last = sym m in
      record {
        inside = omega arith;
        head = omega arith;
        level = record {
          ordered = omega arith;
          inside = a.keys_there;
          apart = a.keys_apart;
          each = λ i b c. keys_inside four wd ts places w keys n lim to a.places-there a.places-apart group.alternatives l.first means (λ j x y. a.noted j x (omega arith)) i b (omega arith);
        };
        few = omega arith;
        stop = stop;
        room = room;
      }

  module _ (narrow : wd ≤ 3) (places keys : ℕ) (group : Group Graded) (l : Level) (lim to : ℕ) (known : has d.name ts ≡ true) (of : LevelOf ts group l) (inside : LevelInside wd w p places keys l lim to)
      (means : KeysMean four wd ts places keys w l.first group.alternatives) where
    abbrev Mapped : List Alternative
    Mapped = map (substitute d.name group) group.alternatives

    abbrev Falls : List Alternative
    Falls = fall_through d.span group.lower

    count-is : level_count l ≡ length (Mapped ++ Falls)
    unfolding level_count
    count-is = count-means ts Mapped d.span group.lower l.below (l.last - l.first) of.below (omega (arith, of.many, length-map group.alternatives (substitute d.name group)))

    -- theorem: what is put is the item of the level's group
    pub level_means : (r : ℕ) (w1 : List ℕ) → PutsLevel wd (ids_in ts) p places keys l lim w to r w1 → Puts w lim to (item_bytes wd ts (with_fall_through d (substituted d.name group))) r w1
    unfolding item_bytes with_fall_through substituted
    level_means r w1 q =
        let Node = node_bytes wd (nonterminal_node ts (with_name (with_alternatives d (Mapped ++ Falls)) group.name)) in
        let Args = bytes_of_each (argument_bytes wd ts) d.args in
        let Y = bytes_of_each (alternative_bytes wd ts) Mapped in
        let Z = bytes_of_each (alternative_bytes wd ts) Falls in
        let a : nonterminal_out wd w p l.name (level_count l) ≡ Node ++ Args
        = ap (λ (n : ℕ). nonterminal_out wd w p n (level_count l)) of.name ∙ ap (nonterminal_out wd w p (number ts group.name)) count-is ∙ head_means four wd ts w p e d h group.name (Mapped ++ Falls) in
        let x : Puts w lim to (Node ++ Args) q.behind q.headed = rw a at q.head in
        let n : l.last - l.first ≡ length group.alternatives = omega (arith, of.many) in
        let t = h.name in
        let k : PutsKeys wd (ids_in ts) places keys (number ts d.name) l lim (length group.alternatives) l.first q.headed q.behind q.last q.filled = rw (n, t) at q.alternatives.each in
        let y : Puts q.headed lim q.behind Y q.last q.filled
        = keys_mean four wd ts places narrow keys d.name group known l of.name of.lower lim w to inside.room inside.stop inside.level group.alternatives l.first q.headed q.behind q.last q.filled
        (omega arith) (omega (arith, of.many)) x.long
        (λ i o. puts_beside w q.headed lim to (Node ++ Args) q.behind x i (elim o [ inl u ↦ inl u | inr u ↦ inr (omega arith) ]))
        (puts_on w q.headed lim to (Node ++ Args) q.behind x inside.stop) (puts_upto w q.headed lim to (Node ++ Args) q.behind x) means k in
        let f = falls_mean group.lower l.below of.below in
        let z : Puts q.filled lim q.last Z r w1 = rw f at q.falls in
        let yz = puts_append q.headed q.filled lim q.behind Y q.last y Z r w1 z in
        let whole = puts_append w q.headed lim to (Node ++ Args) q.behind x (Y ++ Z) r w1 yz in
        let s : (Node ++ Args) ++ (Y ++ Z) ≡ Node ++ (Args ++ bytes_of_each (alternative_bytes wd ts) (Mapped ++ Falls))
        = append_assoc Node Args (Y ++ Z) ∙ ap (λ (u : List ℕ). Node ++ (Args ++ u)) (sym (bytes_of_both (alternative_bytes wd ts) Mapped Falls)) in
        rw s at whole
