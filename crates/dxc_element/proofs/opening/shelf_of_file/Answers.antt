use Rattle.dxc_element.proofs.opening.shelf_of_file.Goals as goal

pub returns-in-Failed-clause-shelf : goal.returns-in-Failed-clause-shelf
returns-in-Failed-clause-shelf g c = c.shelf.ensures.read.cause.cause c.in-Failed.is

pub returns-in-Ok-clause-journals : goal.returns-in-Ok-clause-journals
returns-in-Ok-clause-journals g c = c.shelf.ensures.journals

pub returns-in-Ok-clause-later : goal.returns-in-Ok-clause-later
returns-in-Ok-clause-later g c = c.shelf.ensures.read.cause.later

pub returns-in-Err-NoMemory-clause-journals : goal.returns-in-Err-NoMemory-clause-journals
returns-in-Err-NoMemory-clause-journals g c = c.shelf.ensures.journals

pub returns-in-Err-NoMemory-clause-later : goal.returns-in-Err-NoMemory-clause-later
returns-in-Err-NoMemory-clause-later g c = c.shelf.ensures.read.cause.later

pub returns-in-Failed-clause-journals : goal.returns-in-Failed-clause-journals
returns-in-Failed-clause-journals g c = c.shelf.ensures.journals

pub returns-in-Failed-clause-later : goal.returns-in-Failed-clause-later
returns-in-Failed-clause-later g c = c.shelf.ensures.read.cause.later

pub returns-in-Ok-clause-asked : goal.returns-in-Ok-clause-asked
returns-in-Ok-clause-asked g c = c.shelf.ensures.asked

pub returns-in-Err-NoMemory-clause-asked : goal.returns-in-Err-NoMemory-clause-asked
returns-in-Err-NoMemory-clause-asked g c = c.shelf.ensures.asked

pub returns-in-Failed-clause-asked : goal.returns-in-Failed-clause-asked
returns-in-Failed-clause-asked g c = c.shelf.ensures.asked
