-- The linear light of the channels that the examples use: each number passes the test of the curve, and the next one does not.
use Rattle.std.proofs.Common.{◌≡◌, refl, arith}
use Rattle.page_model.specs.Light.{linear_of}
use Rattle.srgb_luma.proofs.LinearLemmas.{linear_of-low, linear_of-edge}

pub light-0 : linear_of 0 ≡ 0
light-0 = linear_of-low 0 (omega arith)

pub light-10 : linear_of 10 ≡ 13036384
light-10 = linear_of-low 10 (omega arith)

pub light-29 : linear_of 29 ≡ 52770065
light-29 = linear_of-edge 29 52770065 (omega arith) (omega arith) refl refl

pub light-40 : linear_of 40 ≡ 91134955
light-40 = linear_of-edge 40 91134955 (omega arith) (omega arith) refl refl

pub light-42 : linear_of 42 ≡ 99442950
light-42 = linear_of-edge 42 99442950 (omega arith) (omega arith) refl refl

pub light-60 : linear_of 60 ≡ 194073270
light-60 = linear_of-edge 60 194073270 (omega arith) (omega arith) refl refl

pub light-64 : linear_of 64 ≡ 220200647
light-64 = linear_of-edge 64 220200647 (omega arith) (omega arith) refl refl

pub light-78 : linear_of 78 ≡ 327213721
light-78 = linear_of-edge 78 327213721 (omega arith) (omega arith) refl refl

pub light-79 : linear_of 79 ≡ 335812419
light-79 = linear_of-edge 79 335812419 (omega arith) (omega arith) refl refl

pub light-89 : linear_of 89 ≡ 429061770
light-89 = linear_of-edge 89 429061770 (omega arith) (omega arith) refl refl

pub light-90 : linear_of 90 ≡ 439124899
light-90 = linear_of-edge 90 439124899 (omega arith) (omega arith) refl refl

pub light-124 : linear_of 124 ≡ 865677518
light-124 = linear_of-edge 124 865677518 (omega arith) (omega arith) refl refl

pub light-125 : linear_of 125 ≡ 880806465
light-125 = linear_of-edge 125 880806465 (omega arith) (omega arith) refl refl

pub light-128 : linear_of 128 ≡ 927113788
light-128 = linear_of-edge 128 927113788 (omega arith) (omega arith) refl refl

pub light-136 : linear_of 136 ≡ 1057426646
light-136 = linear_of-edge 136 1057426646 (omega arith) (omega arith) refl refl

pub light-137 : linear_of 137 ≡ 1074421651
light-137 = linear_of-edge 137 1074421651 (omega arith) (omega arith) refl refl

pub light-170 : linear_of 170 ≡ 1726481418
light-170 = linear_of-edge 170 1726481418 (omega arith) (omega arith) refl refl

pub light-178 : linear_of 178 ≡ 1912124570
light-178 = linear_of-edge 178 1912124570 (omega arith) (omega arith) refl refl

pub light-191 : linear_of 191 ≡ 2237658948
light-191 = linear_of-edge 191 2237658948 (omega arith) (omega arith) refl refl

pub light-200 : linear_of 200 ≡ 2480689102
light-200 = linear_of-edge 200 2480689102 (omega arith) (omega arith) refl refl

pub light-228 : linear_of 228 ≡ 3332131055
light-228 = linear_of-edge 228 3332131055 (omega arith) (omega arith) refl refl

pub light-231 : linear_of 231 ≡ 3432120125
light-231 = linear_of-edge 231 3432120125 (omega arith) (omega arith) refl refl

pub light-232 : linear_of 232 ≡ 3465833556
light-232 = linear_of-edge 232 3465833556 (omega arith) (omega arith) refl refl

pub light-255 : linear_of 255 ≡ 4294967296
light-255 = linear_of-edge 255 4294967296 (omega arith) (omega arith) refl refl
