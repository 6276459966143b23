mod PrintedValues
mod PrintedConditions
mod PrintedPlans
mod SortedDefinitions
mod PrintedFile
