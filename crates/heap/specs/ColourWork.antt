-- The colour work of a turn changes colours alone, and the register not at all.
use Rattle.std.specs.Prelude.{ℕ, zero, suc, ◌<◌, ◌≡◌, refl, ◌≢◌, List, [], ◌∷◌, length}
use Rattle.std.proofs.Common.{sym, ◌∙◌, inr, arith}
use Rattle.datatypes.specs.declared.Side.{Side}
use Rattle.datatypes.specs.declared.Link.{Link}
use Rattle.datatypes.specs.declared.Purpose.{Purpose}
use Rattle.datatypes.specs.declared.Purpose.TheVariants.{ForInsert, RedSibling, BlackSibling}
use Rattle.datatypes.specs.declared.Fixup.{Fixup}
use Rattle.datatypes.specs.declared.Ending.{Ending}
use Rattle.datatypes.specs.declared.Ending.TheVariants.{Balanced, Blacken, Rotate, RotateTwice, Missing}
use Rattle.datatypes.specs.Side.{other, owner, side_of}
use Rattle.base.specs.Walk.{cond_both}
use Rattle.spec.specs.Numbers.{node_words}
use Rattle.spec.specs.Pool.{word, child, paint, colour_word, black_colour, red_colour}
use Rattle.spec.specs.Register.{State, state}
use Rattle.spec.specs.Plan.{paint_insert_fixup, paint_delete_levels, paint_end, paint_delete_fixup, red_child}
use Rattle.spec.specs.Turn.{end_diag, end_zig, end_insert}
use Rattle.laws.specs.Words.{length-set_word, word-other}

-- q has every word of p but the colours
pub record ColoursOnly (p q : List ℕ) : Type 0 where
  pub size : length q ≡ length p
  pub words : (n f : ℕ) → f < node_words → f ≢ colour_word → word q n f ≡ word p n f

pub colours_only-refl : (p : List ℕ) → ColoursOnly p p
colours_only-refl p = record { size = refl; words = λ n f h d. refl }

pub colours_only-trans : {p q r : List ℕ} → ColoursOnly p q → ColoursOnly q r → ColoursOnly p r
colours_only-trans a b = record { size = b.size ∙ a.size; words = λ n f h d. b.words n f h d ∙ a.words n f h d }

pub colours_only-paint : (p : List ℕ) (n c : ℕ) → ColoursOnly p (paint p n c)
colours_only-paint p n c = record {
  size = length-set_word p n colour_word c;
  words = λ m f h d. word-other p n m colour_word f c (omega arith) h (inr (λ e. d (sym e)));
}

pub colours_only-insert_fixup : (m : ℕ) (path : List Link) (p : List ℕ) → ColoursOnly p (paint_insert_fixup m path p)
unfolding paint_insert_fixup
colours_only-insert_fixup zero path p = colours_only-refl p
colours_only-insert_fixup (suc m) [] p = colours_only-refl p
colours_only-insert_fixup (suc m) (x ∷ []) p = colours_only-refl p
colours_only-insert_fixup (suc m) (x ∷ y ∷ up) p =
    let aunt = child p (other (side_of y)) (owner y) in
    let a = paint p (owner x) black_colour in
    let b = paint a aunt black_colour in
    colours_only-trans (colours_only-paint p (owner x) black_colour)
    (colours_only-trans (colours_only-paint a aunt black_colour)
    (colours_only-trans (colours_only-paint b (owner y) red_colour) (colours_only-insert_fixup m up (paint b (owner y) red_colour))))

pub colours_only-delete_fixup : (m : ℕ) (path : List Link) (p : List ℕ) → ColoursOnly p (paint_delete_levels m path p)
unfolding paint_delete_levels
colours_only-delete_fixup zero path p = colours_only-refl p
colours_only-delete_fixup (suc m) [] p = colours_only-refl p
colours_only-delete_fixup (suc m) (l ∷ up) p =
    let w = child p (other (side_of l)) (owner l) in
    colours_only-trans (colours_only-paint p w red_colour) (colours_only-delete_fixup m up (paint p w red_colour))

colours_only-end : (e : Ending) (st : State) (n : ℕ) → ColoursOnly st.pool (paint_end e st n)
colours_only-end Balanced st n = colours_only-refl st.pool
colours_only-end Blacken st n = colours_only-paint st.pool n black_colour
colours_only-end (Rotate t) st n = colours_only-refl st.pool
colours_only-end (RotateTwice t u) st n = colours_only-refl st.pool
colours_only-end Missing st n = colours_only-refl st.pool

pub colours_only-removal : (st : State) (fix : Fixup) (x : ℕ) (path : List Link) → ColoursOnly st.pool (paint_delete_fixup st fix x path).pool
unfolding paint_delete_fixup
colours_only-removal st fix x path =
    colours_only-trans (colours_only-delete_fixup fix.levels path st.pool)
    (colours_only-end fix.ending (state (paint_delete_levels fix.levels path st.pool) st.register) _)

pub colours_only-insert : (e : Ending) (st : State) → ColoursOnly st.pool (end_insert e st).pool
colours_only-insert Balanced st = colours_only-paint st.pool st.register.root black_colour
colours_only-insert Blacken st = colours_only-refl st.pool
colours_only-insert (Rotate t) st = colours_only-refl st.pool
colours_only-insert (RotateTwice t u) st = colours_only-refl st.pool
colours_only-insert Missing st = colours_only-refl st.pool

-- after a diag's and a zig's last store
pub record Coloured (st after : State) : Type 0 where
  pub only : ColoursOnly st.pool after.pool
  pub register : after.register ≡ st.register

pub end-diag : (purpose : Purpose) (st : State) (s : Side) (b : ℕ) → Coloured st (end_diag purpose st s b)
end-diag ForInsert st s b = record { only = colours_only-paint st.pool st.register.root black_colour; register = refl }
end-diag BlackSibling st s b = record { only = colours_only-paint st.pool (child st.pool s b) black_colour; register = refl }
end-diag RedSibling st s b =
    let copy = child st.pool (other s) b in
    let w = child st.pool s copy in
    cond_both (λ x. Coloured st x) (red_child st.pool w)
    (record { only = colours_only-refl st.pool; register = refl })
    (record { only = colours_only-trans (colours_only-paint st.pool w red_colour) (colours_only-paint (paint st.pool w red_colour) copy black_colour); register = refl })

pub end-zig : (purpose : Purpose) (st : State) → Coloured st (end_zig purpose st)
end-zig ForInsert st = record { only = colours_only-paint st.pool st.register.root black_colour; register = refl }
end-zig RedSibling st = record { only = colours_only-refl st.pool; register = refl }
end-zig BlackSibling st = record { only = colours_only-refl st.pool; register = refl }
