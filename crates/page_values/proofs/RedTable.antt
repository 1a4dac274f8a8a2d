-- The coordinates of the colours of the examples.
use Rattle.std.proofs.Common.{◌≡◌, refl}
use Rattle.page_model.specs.Red.{chromaticity_of, white}
use Rattle.time_values.specs.Examples.{rgb}
use Rattle.page_values.proofs.LightTable.{light-0, light-10, light-42, light-60, light-78, light-79, light-90, light-124, light-125, light-128, light-191, light-200, light-228, light-255}
use Rattle.page_values.proofs.RedLemmas.{coordinates_by, coordinates-by, chromaticity-by}

pub white-is : chromaticity_of (rgb 255 255 255) ≡ coordinates_by 4294967296 4294967296 4294967296
white-is = chromaticity-by (rgb 255 255 255) 4294967296 4294967296 4294967296 refl light-255 light-255 light-255

pub black-is : chromaticity_of (rgb 0 0 0) ≡ coordinates_by 4294967296 4294967296 4294967296
black-is = coordinates-by white 4294967296 4294967296 4294967296 light-255 light-255 light-255

pub dark_grey-is : chromaticity_of (rgb 10 10 10) ≡ coordinates_by 13036384 13036384 13036384
dark_grey-is = chromaticity-by (rgb 10 10 10) 13036384 13036384 13036384 refl light-10 light-10 light-10

pub mid_grey-is : chromaticity_of (rgb 90 90 90) ≡ coordinates_by 439124899 439124899 439124899
mid_grey-is = chromaticity-by (rgb 90 90 90) 439124899 439124899 439124899 refl light-90 light-90 light-90

pub red-is : chromaticity_of (rgb 255 0 0) ≡ coordinates_by 4294967296 0 0
red-is = chromaticity-by (rgb 255 0 0) 4294967296 0 0 refl light-255 light-0 light-0

pub orange-is : chromaticity_of (rgb 200 60 0) ≡ coordinates_by 2480689102 194073270 0
orange-is = chromaticity-by (rgb 200 60 0) 2480689102 194073270 0 refl light-200 light-60 light-0

pub orange_4e-is : chromaticity_of (rgb 255 78 0) ≡ coordinates_by 4294967296 327213721 0
orange_4e-is = chromaticity-by (rgb 255 78 0) 4294967296 327213721 0 refl light-255 light-78 light-0

pub orange_4f-is : chromaticity_of (rgb 255 79 0) ≡ coordinates_by 4294967296 335812419 0
orange_4f-is = chromaticity-by (rgb 255 79 0) 4294967296 335812419 0 refl light-255 light-79 light-0

pub orange_7c-is : chromaticity_of (rgb 255 124 0) ≡ coordinates_by 4294967296 865677518 0
orange_7c-is = chromaticity-by (rgb 255 124 0) 4294967296 865677518 0 refl light-255 light-124 light-0

pub orange_7d-is : chromaticity_of (rgb 255 125 0) ≡ coordinates_by 4294967296 880806465 0
orange_7d-is = chromaticity-by (rgb 255 125 0) 4294967296 880806465 0 refl light-255 light-125 light-0

pub green-is : chromaticity_of (rgb 0 128 0) ≡ coordinates_by 0 927113788 0
green-is = chromaticity-by (rgb 0 128 0) 0 927113788 0 refl light-0 light-128 light-0

pub yellow-is : chromaticity_of (rgb 191 228 42) ≡ coordinates_by 2237658948 3332131055 99442950
yellow-is = chromaticity-by (rgb 191 228 42) 2237658948 3332131055 99442950 refl light-191 light-228 light-42
