-- Some texts worked: the rule of document 01's own book, typed, and one text for each number. Assumes nothing.
use mathlib.Core.Path.{◌≡◌, refl}
use mathlib.Core.List.{[], ◌∷◌, ◌++◌}
use lib.ListN.{replicate}
use Rattle.lists.specs.Ascii.{ascii}
use Rattle.lists.specs.Sequence.{padded, chain, every}
use Rattle.mltl.specs.Mltl.{delay_by}
use Rattle.table.specs.Nodes.{no_node, no_rule}
use Rattle.builder.specs.Adding.{adding_node, adding_rule}
use Rattle.grammar.specs.Machine.{depth, puts, unary_done, plain, step, fate}
use Rattle.text.specs.Typing.{grown, line_added, refused, accepted, typed_from, typed}

own_line : typed (ascii "7: F[1,3] s0\n")
    ≡ accepted (record {
      nodes = padded no_node 64 (record { kind = 1; arg = 0; lo = 0; hi = 0; left = 0; right = 0 } ∷ record { kind = 7; arg = 0; lo = 1; hi = 3; left = 0; right = 0 } ∷ []);
      node_count = 2;
      rules = padded no_rule 8 (record { name = 7; watched = 1 } ∷ []);
      rule_count = 1;
    })
unfolding typed typed_from fate step plain puts unary_done depth line_added grown adding_node adding_rule chain delay_by every
own_line = refl

-- the name 0, in the second line
name_0 : typed (ascii "1:s0\n0:s0\n") ≡ refused 5 2
unfolding typed typed_from fate step plain puts unary_done depth line_added grown adding_node adding_rule chain delay_by every
name_0 = refl

-- the largest name, and the one above it
name_65535 : (typed (ascii "65535:s0\n")).number ≡ 0
unfolding typed typed_from fate step plain puts unary_done depth line_added grown adding_node adding_rule chain delay_by every
name_65535 = refl

name_65536 : typed (ascii "65536:s0\n") ≡ refused 5 1
unfolding typed typed_from fate step plain puts unary_done depth line_added grown adding_node adding_rule chain delay_by every
name_65536 = refl

-- the name of the first line again
name_again : typed (ascii "1:s0\n1:s1\n") ≡ refused 10 2
unfolding typed typed_from fate step plain puts unary_done depth line_added grown adding_node adding_rule chain delay_by every
name_again = refl

-- what is wrong with the first line comes before the syntax of the second
signal_32 : typed (ascii "1:s32\n?") ≡ refused 5 1
unfolding typed typed_from fate step plain puts unary_done depth line_added grown adding_node adding_rule chain delay_by every
signal_32 = refl

interval_2_1 : typed (ascii "1:F[2,1]s0\n") ≡ refused 6 1
unfolding typed typed_from fate step plain puts unary_done depth line_added grown adding_node adding_rule chain delay_by every
interval_2_1 = refl

-- no text; a line without its end, behind another; an empty line
nothing : typed [] ≡ refused 11 0
unfolding typed
nothing = refl

no_end : typed (ascii "1:s0\n2:s0") ≡ refused 32 9
unfolding typed typed_from fate step plain puts unary_done depth line_added grown adding_node adding_rule chain delay_by every
no_end = refl

empty_line : typed (ascii "\n1:s0\n") ≡ refused 32 0
unfolding typed typed_from fate step plain puts unary_done depth
empty_line = refl

-- nine rules; F[0,1] over F[0,4095]; 33 open brackets
ninth_rule : typed (ascii "1:s0\n2:s0\n3:s0\n4:s0\n5:s0\n6:s0\n7:s0\n8:s0\n9:s0\n") ≡ refused 8 9
unfolding typed typed_from fate step plain puts unary_done depth line_added grown adding_node adding_rule chain delay_by every
ninth_rule = refl

delay_4096 : typed (ascii "1:F[0,1]F[0,4095]s0\n") ≡ refused 9 1
unfolding typed typed_from fate step plain puts unary_done depth line_added grown adding_node adding_rule chain delay_by every
delay_4096 = refl

brackets_33 : typed (ascii "1:" ++ replicate 33 40) ≡ refused 33 34
unfolding typed typed_from fate step plain puts unary_done depth
brackets_33 = refl
