-- A fault of a part as one of the file: want of memory is told by itself.
use Rattle.page_reader.specs.declared.fault.PageFault.{PageFault}
use Rattle.page_reader.specs.declared.fault.PageFault.TheVariants as page
use Rattle.css_declarations.specs.declared.fault.SheetFault.{SheetFault}
use Rattle.css_declarations.specs.declared.fault.SheetFault.TheVariants as sheet
use Rattle.cascade.specs.declared.scene_fault.SceneFault.{SceneFault}
use Rattle.cascade.specs.declared.scene_fault.SceneFault.TheVariants as scene
use Rattle.page_loader.specs.declared.load_fault.LoadFault.{LoadFault}
use Rattle.page_loader.specs.declared.load_fault.LoadFault.TheVariants.{Page, Sheet, Scene, NoMemory}

abbrev pub of_page : PageFault → LoadFault
of_page page.NoMemory = NoMemory
of_page (page.BadText place) = Page (page.BadText place)
of_page page.TooMany = Page page.TooMany

abbrev pub of_sheet : SheetFault → LoadFault
of_sheet sheet.NoMemory = NoMemory
of_sheet (sheet.BadSheet place) = Sheet (sheet.BadSheet place)
of_sheet (sheet.UnknownProperty place) = Sheet (sheet.UnknownProperty place)
of_sheet (sheet.BadValue place) = Sheet (sheet.BadValue place)
of_sheet (sheet.BadKeyframes place) = Sheet (sheet.BadKeyframes place)
of_sheet (sheet.OverLimit place) = Sheet (sheet.OverLimit place)

abbrev pub of_scene : SceneFault → LoadFault
of_scene scene.NoMemory = NoMemory
of_scene (scene.NotPlaced number) = Scene (scene.NotPlaced number)
of_scene scene.BodyProperty = Scene scene.BodyProperty
of_scene (scene.TooManyAnimations number) = Scene (scene.TooManyAnimations number)
